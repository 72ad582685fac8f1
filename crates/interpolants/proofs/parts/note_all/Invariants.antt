use Rattle.interpolants.specs.Splits.{partition_of, local_of}
use Rattle.interpolants.proofs.NotedParts.{AreSomeNoted}
use Rattle.interpolants.proofs.parts.note_all.Given as goal

abbrev pub invariant-loop-at : goal.invariant-loop-at
invariant-loop-at l =
    AreSomeNoted (partition_of l.split) (local_of l.split) l.fn.graph l.graph l.ids l.at-index l.notes
