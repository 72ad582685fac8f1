use Rattle.std.proofs.Common.{take}
use Rattle.dq_formula.specs.Prefix.{AreUndeclaredIn}
use Rattle.dq_formula.proofs.formula.Formula.undeclared.Given as goal

abbrev pub invariant-loop-j : goal.invariant-loop-j
invariant-loop-j l = AreUndeclaredIn l.self (take l.j l.self.matrix) l.vars
