use Rattle.std.proofs.Common.{◌≡◌, ℕ, ◌<◌, map}
use Rattle.dq_lits.specs.Row.{bit_of}
use Rattle.dq_lits.specs.Expansion.{row_assignment}
use Rattle.dq_formula.specs.Dependencies.{dependencies}
use Rattle.expansion.proofs.orders.compare_on.Given as goal

-- the rows agree on the universals before place i of the set
abbrev pub invariant-loop-i : goal.invariant-loop-i
invariant-loop-i l =
    (k : ℕ) → k < l.i → bit_of (map (row_assignment l.f l.r1) (dependencies l.f.universals l.deps)) k ≡ bit_of
    (map (row_assignment l.f l.r2) (dependencies l.f.universals l.deps)) k
