use Rattle.std.proofs.Common.{take}
use Rattle.cert_export.specs.Names.{renaming}
use Rattle.cert_export.proofs.GivenNames.{NamedSoFar}
use Rattle.cert_export.proofs.naming.name_variables.Given as goal

abbrev pub invariant-loop-l : goal.invariant-loop-l
invariant-loop-l g l = NamedSoFar (g.N.Naming.target l.naming) (renaming l.fn.names) (renaming l.names)
    (take l.l-index l.clause)
