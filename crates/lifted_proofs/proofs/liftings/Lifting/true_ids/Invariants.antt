use Rattle.std.proofs.Common.{take}
use Rattle.lifted_proofs.specs.Liftings.{AreTrueIds}
use Rattle.lifted_proofs.proofs.liftings.Lifting.true_ids.Given as goal

abbrev pub invariant-loop-k : goal.invariant-loop-k
invariant-loop-k l = AreTrueIds l.self (take l.k l.dropped) l.ids.items
