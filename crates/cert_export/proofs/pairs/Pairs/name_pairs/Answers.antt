use Rattle.cert_export.specs.Names.{renaming}
use Rattle.cert_export.proofs.NamedPairs.{one_pair, all_pairs}
use Rattle.cert_export.proofs.pairs.Pairs.name_pairs.Goals as goal

pub loop-l-preserved : goal.loop-l-preserved
loop-l-preserved c = one_pair c.args.self.now.f.now c.args.self.now.log.now.entries c.args.self.now.rounds.now
    (renaming c.args.names.now) (renaming c.loop-l.names) (renaming c.name_pair.new.names) c.args.clause.now
    c.loop-l.l-index c.l-item.result c.loop-l.invariant c.in_ok-name_pair.ensures.kept c.in_ok-name_pair.ensures.right
    c.in_ok-name_pair.ensures.named c.loop-l-test.true c.l-item.is

pub returns-clause-named : goal.returns-clause-named
returns-clause-named c = all_pairs c.args.self.now.f.now c.args.self.now.log.now.entries c.args.self.now.rounds.now
    (renaming c.args.names.now) (renaming c.loop-l.names) c.args.clause.now c.loop-l.l-index c.loop-l-test.false
    c.loop-l.invariant
