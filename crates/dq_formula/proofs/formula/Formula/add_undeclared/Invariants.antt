use Rattle.std.proofs.Common.{List, [], ◌∷◌, ◌++◌, take}
use Rattle.dq_lits.specs.Literal.{Literal}
use Rattle.dq_formula.specs.Prefix.{AreUndeclaredIn}
use Rattle.dq_formula.proofs.formula.Formula.add_undeclared.Given as goal

abbrev pub invariant-loop-lit : goal.invariant-loop-lit
invariant-loop-lit l = (earlier : List (List Literal)) → AreUndeclaredIn l.self earlier l.initial.vars
    → AreUndeclaredIn l.self (earlier ++ take l.lit-index l.clause ∷ []) l.vars
