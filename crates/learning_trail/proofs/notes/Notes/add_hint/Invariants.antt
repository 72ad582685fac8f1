use Rattle.std.proofs.Common.{◌≡◌, ◌||◌, ℕ, take, length}
use Rattle.learning_trail.specs.Marks.{marked, stands_on}
use Rattle.learning_trail.proofs.notes.Notes.add_hint.Given as goal

abbrev pub invariant-loop-l : goal.invariant-loop-l
invariant-loop-l l = record {
  len : length l.self.marks ≡ length l.fn.self.marks;
  marked : (v : ℕ) → marked l.self.marks v ≡ (marked l.fn.self.marks v || stands_on (take l.l-index l.lits) v);
  places : l.self.places ≡ l.fn.self.places;
  hints : l.self.hints ≡ l.fn.self.hints;
  literals : l.self.literals ≡ l.fn.self.literals;
}
