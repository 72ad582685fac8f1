use Rattle.std.proofs.Common.{◌++◌, ℕ, List, length}
use Rattle.cert_judge.specs.Phases.{Gives, HasNoEnd, IsLawful}
use Rattle.cert_judge.specs.declared.answers.Judgement.{Judgement}
use Rattle.cert_judge.proofs.streams.take_piece.Given as goal

abbrev pub invariant-loop-line : goal.invariant-loop-line
invariant-loop-line l = record {
  gives : (bytes : List ℕ) (answer : Judgement)
      → Gives l.f l.phase (l.unfinished.items ++ (l.rest ++ bytes)) answer
      → Gives l.f l.fn.phase (l.fn.unfinished.items ++ (l.piece ++ bytes)) answer;
  lawful : IsLawful l.phase;
  one_line : HasNoEnd l.unfinished.items;
}

abbrev pub decreases-loop-line : goal.decreases-loop-line
decreases-loop-line l = length l.rest
