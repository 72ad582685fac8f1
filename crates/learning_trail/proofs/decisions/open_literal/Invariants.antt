use Rattle.std.proofs.Common.{◌≡◌, take, true, MatchOption}
use Rattle.dq_lits.specs.Literal.{Literal, opposite}
use Rattle.dq_lits.specs.Derivation.{holds}
use Rattle.learning_trail.specs.Steps.{literals_of}
use Rattle.dq_lits.specs.Truth.{IsFree}
use Rattle.learning_trail.proofs.decisions.open_literal.Given as goal

abbrev pub invariant-loop-l : goal.invariant-loop-l
invariant-loop-l l = MatchOption l.best
    ((k : Literal) → holds (take l.l-index l.lits) k ≡ true → holds (literals_of l.trail.steps) (opposite k) ≡ true)
    (λ k. IsFree (literals_of l.trail.steps) k × (holds l.lits k ≡ true))
