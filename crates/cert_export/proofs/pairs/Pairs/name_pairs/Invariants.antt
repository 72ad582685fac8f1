use Rattle.std.proofs.Common.{take}
use Rattle.cert_export.specs.Names.{renaming}
use Rattle.cert_export.proofs.NamedPairs.{PairsSoFar}
use Rattle.cert_export.proofs.pairs.Pairs.name_pairs.Given as goal

abbrev pub invariant-loop-l : goal.invariant-loop-l
invariant-loop-l l = PairsSoFar l.self.f.now l.self.log.now.entries l.self.rounds.now (renaming l.fn.names)
    (renaming l.names) (take l.l-index l.clause)
