use Rattle.refutation_checker.specs.PairNames.{frame}
use Rattle.refutation_checker.proofs.ReadClauses.{pair_named}
use Rattle.refutation_checker.proofs.judging.name.Goals as goal

pub returns-clause-named : goal.returns-clause-named
returns-clause-named c =
    pair_named (frame c.args.e.now) c.base.new.self c.args.k c.args.y c.in-Existential.set c.in-Existential.place
    c.in_ok-base-in-Existential.base c.args.l c.on.result c.requires.frame
    c.in_ok-base-in-Existential.ensures.names c.requires.row c.in-Existential.ensures
    c.in_ok-base-in-Existential.ensures.base c.on.ensures
