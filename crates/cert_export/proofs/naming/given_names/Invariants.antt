use Rattle.std.proofs.Common.{take}
use Rattle.cert_export.specs.Names.{renaming}
use Rattle.cert_export.proofs.GivenNames.{GivenNamed}
use Rattle.cert_export.proofs.naming.given_names.Given as goal

abbrev pub invariant-loop-id : goal.invariant-loop-id
invariant-loop-id g l = GivenNamed (g.N.Naming.target l.naming) l.log.entries (renaming l.names) (take l.id-index l.ids)
