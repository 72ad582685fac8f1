use Rattle.engine_cases.proofs.DeclaredVariables.{declared_by_test}
use Rattle.engine_cases.proofs.conditions.condition_of.Goals as goal

pub returns-clause-declared : goal.returns-clause-declared
returns-clause-declared c =
    declared_by_test c.args.f.now c.in_ok-l.l c.var.result c.is_declared.result c.var.ensures.value
    c.is_declared.ensures c.if-not-is_declared.false
