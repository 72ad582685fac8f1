use Rattle.std.proofs.Common.{◌≡◌, ℕ, List}
use Rattle.dq_lits.specs.Literal.{Literal}
use Rattle.refutation_checker.specs.PairNames.{frame, names_in, AreNames}
use Rattle.refutation_checker.specs.Namings.{Extends}
use Rattle.refutation_checker.specs.Judging.{AreLines, AreBehind, HintsLeft}
use Rattle.refutation_checker.proofs.judging.Judging.hint_all.Given as goal

abbrev pub invariant-loop-id : goal.invariant-loop-id
invariant-loop-id l = record {
  names : AreNames (frame l.e) l.self.names;
  extends : Extends (frame l.e) (names_in l.fn.self.names) (names_in l.self.names);
  rest : l.self.proving ≡ record l.fn.self.proving { line = l.self.proving.line };
  line : l.self.line.items ≡ l.fn.self.line.items;
  judged : (lines : List (ℕ × List Literal)) (literals : List Literal)
      → AreLines (frame l.e) (names_in l.fn.self.names) lines l.fn.self.proving.lines
      → AreBehind (frame l.e) lines
      → HintsLeft (frame l.e) (names_in l.fn.self.names) lines literals l.hints l.fn.self.proving.line 0
      → HintsLeft (frame l.e) (names_in l.self.names) lines literals l.hints l.self.proving.line l.id-index;
}
