use Rattle.std.proofs.Common.{sym, subst, arith}
use Rattle.std.specs.List.{Contains}
use Rattle.dq_lits.specs.Literal.{variable_of}
use Rattle.dq_lits.specs.Formula.{declared}
use Rattle.dq_prep.proofs.OpenLiterals.{open-more}
use Rattle.dq_prep.proofs.takings.Taking.opens.Goals as goal

pub role-requires-clause-bound : goal.role-requires-clause-bound
role-requires-clause-bound c =
    subst (λ l. Contains (declared c.args.self.now.formula.now) (variable_of l)) (sym c.l-item.is)
    (c.requires.bound c.loop-l.l-index c.l-item.result c.loop-l-test.true)

pub loop-l-preserved : goal.loop-l-preserved
loop-l-preserved c = search (arith, open-more)
