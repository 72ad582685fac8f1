use Rattle.cert_export.specs.Names.{renaming}
use Rattle.cert_export.proofs.GivenNames.{one_named, all_named}
use Rattle.cert_export.proofs.naming.name_variables.Goals as goal

pub loop-l-preserved : goal.loop-l-preserved
loop-l-preserved g c =
    one_named (g.N.Naming.target c.args.naming.now) (renaming c.args.names.now) (renaming c.loop-l.names)
    (renaming c.name_variable.new.names) c.args.clause.now c.loop-l.l-index c.l-item.result
    c.loop-l.invariant c.in_ok-name_variable.ensures.kept c.in_ok-name_variable.ensures.right
    c.in_ok-name_variable.ensures.named c.loop-l-test.true c.l-item.is

pub returns-clause-named : goal.returns-clause-named
returns-clause-named g c =
    all_named (g.N.Naming.target c.args.naming.now) (renaming c.args.names.now)
    (renaming c.loop-l.names) c.args.clause.now c.loop-l.l-index c.loop-l-test.false c.loop-l.invariant
