use Rattle.rup_core.specs.Table.{StandsOnlyOn}
use Rattle.std.proofs.Common.{drop}
use Rattle.rup_core.proofs.trails.unassign.Given as goal

abbrev pub invariant-loop-l : goal.invariant-loop-l
invariant-loop-l l = StandsOnlyOn l.near (drop l.l-index l.literals)
