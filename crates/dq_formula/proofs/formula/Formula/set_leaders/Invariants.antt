use Rattle.std.proofs.Common.{◌≡◌, ℕ, ◌<◌, get_or, length}
use Rattle.dq_formula.specs.Sets.{IsLeader}
use Rattle.dq_formula.proofs.formula.Formula.set_leaders.Given as goal

abbrev pub invariant-loop-place : goal.invariant-loop-place
invariant-loop-place l = record {
  many : length l.leaders.items ≡ l.place;
  each : (k : ℕ) → k < l.place → IsLeader l.self (get_or l.leaders.items k 0) k;
}
