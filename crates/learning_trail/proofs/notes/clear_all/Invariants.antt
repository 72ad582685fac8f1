use Rattle.std.proofs.Common.{◌≡◌, length}
use Rattle.learning_trail.proofs.TouchedMarks.{AreLeft}
use Rattle.learning_trail.proofs.notes.clear_all.Given as goal

abbrev pub invariant-loop-v : goal.invariant-loop-v
invariant-loop-v l = record {
  len : length l.marks.items ≡ length l.fn.marks.items;
  left : AreLeft l.marks.items l.touched l.v-index;
}
