use Rattle.learning_trail.proofs.ListedPlaces.{AreListed}
use Rattle.learning_trail.proofs.notes.list.Given as goal

abbrev pub invariant-loop-v : goal.invariant-loop-v
invariant-loop-v l = record {
  listed : AreListed l.trail.steps l.marks l.touched l.places.items l.v-index;
}
