use Rattle.std.proofs.Common.{take}
use Rattle.lifted_proofs.specs.Carried.{lines_of, AreWanted}
use Rattle.lifted_proofs.proofs.hinted.hinted_instances.Given as goal

abbrev pub invariant-loop-k : goal.invariant-loop-k
invariant-loop-k l = AreWanted (lines_of (take l.k l.items)) l.last l.wanted
