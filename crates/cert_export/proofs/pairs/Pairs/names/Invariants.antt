use Rattle.std.proofs.Common.{take}
use Rattle.cert_export.specs.Names.{renaming}
use Rattle.cert_export.proofs.NamedPairs.{GivenPairs}
use Rattle.cert_export.proofs.pairs.Pairs.names.Given as goal

abbrev pub invariant-loop-id : goal.invariant-loop-id
invariant-loop-id l = GivenPairs l.self.f.now l.self.log.now.entries l.self.rounds.now (renaming l.names)
    (take l.id-index l.ids)
