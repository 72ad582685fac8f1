use Rattle.std.proofs.Common.{◌≡◌, ◌+◌, ℕ, length}
use Rattle.circuit_plain.specs.Words.{marked}
use Rattle.circuit_plain.proofs.ReachLaws.{SidesMarked}
use Rattle.circuit_plain.proofs.circuits.Circuit.reach_by_words.Given as goal

abbrev pub invariant-loop-i : goal.invariant-loop-i
invariant-loop-i l = record {
  long : length l.words ≡ l.self.max_var + 1;
  sides : (j : ℕ) → SidesMarked l.self l.order (marked l.initial.words j) (marked l.words j) l.i;
}
