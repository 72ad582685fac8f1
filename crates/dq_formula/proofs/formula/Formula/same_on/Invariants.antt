use Rattle.std.proofs.Common.{◌≡◌, ℕ, ◌<◌, map}
use Rattle.dq_lits.specs.Row.{bit_of, assignment_of}
use Rattle.dq_formula.specs.Dependencies.{dependencies}
use Rattle.dq_formula.proofs.formula.Formula.same_on.Given as goal

-- the rows agree on the universals before place i of the set
abbrev pub invariant-loop-i : goal.invariant-loop-i
invariant-loop-i l =
    (k : ℕ) → k < l.i → bit_of (map (assignment_of l.self.universals l.r1) (dependencies l.self.universals l.deps)) k
    ≡ bit_of (map (assignment_of l.self.universals l.r2) (dependencies l.self.universals l.deps)) k
