use Rattle.std.proofs.Common.{sym, subst}
use Rattle.dq_lits.specs.Henkin.{IsTrueFormula}
use Rattle.dqsolve_core.proofs.demos.demo_output.Goals as goal

pub demonstrate-requires-clause-is_true : goal.demonstrate-requires-clause-is_true
demonstrate-requires-clause-is_true c =
    subst IsTrueFormula (sym c.requires.planted) (c.planted_formulas_are_true.ensures c.args.asked.seed
    c.args.asked.size c.requires.some)
