use Rattle.std.proofs.Common.{◌≡◌, ℕ, ◌<◌, length, map}
use Rattle.dq_lits.specs.Row.{bit_of, assignment_of}
use Rattle.dq_formula.specs.Dependencies.{dependencies}
use Rattle.dq_formula.proofs.formula.Formula.restrict.Given as goal

-- the bits below i are written
abbrev pub invariant-loop-i : goal.invariant-loop-i
invariant-loop-i l = record {
  size : length l.out ≡ length l.row;
  written : (k : ℕ) → k < l.i → bit_of l.out k ≡ bit_of (map (assignment_of l.self.universals l.row)
      (dependencies l.self.universals l.deps)) k;
}
