use Rattle.std.proofs.Common.{ℕ, ◌≤◌, ◌<◌, length, get_or, take, Contains}
use Rattle.std.specs.List.{All}
use Rattle.dq_formula.proofs.sets.is_subset.Given as goal

-- what was found, and that the numbers passed are below all to come
abbrev pub invariant-loop-x : goal.invariant-loop-x
invariant-loop-x l = record {
  within : l.at ≤ length l.ys;
  found : All (Contains l.ys) (take l.x-index l.xs);
  passed : (k i : ℕ) → k < l.at → l.x-index ≤ i → i < length l.xs → get_or l.ys k 0 < get_or l.xs i 0;
}
