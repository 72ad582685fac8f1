use Rattle.definability.specs.Following.{AreActiveSoFar}
use Rattle.definability.specs.Store.{store_of}
use Rattle.definability.proofs.definability.Definability.active_groups.Given as goal

abbrev pub invariant-loop-i : goal.invariant-loop-i
invariant-loop-i l = AreActiveSoFar (store_of l.self) l.side l.frames l.i l.groups.items
