-- Where levels begin.
use Rattle.std.proofs.Common.{◌≡◌, ℕ, ◌≤◌, Bool, true, cond, List, [], ◌∷◌, ◌++◌, length, arith}
use Rattle.std.proofs.lemmas.Bool.{false≢true}
use Rattle.std.proofs.lemmas.List.{length-append}
use Rattle.dq_lits.specs.Literal.{Literal, variable_of}
use Rattle.dq_lits.specs.Derivation.{holds}
use Rattle.dq_lits.proofs.HeldLiterals.{holds_cases, holds_here, holds_later}
use Rattle.learning_trail.specs.declared.trails.Step.{Step}
use Rattle.learning_trail.specs.Steps.{is_decision, level_of, starts_of, level_start, IsAt}
use Rattle.learning_trail.specs.Marks.{marked, is_level_marked}
use Rattle.learning_trail.specs.Lessons.{IsMarkedInLevel}

-- no more levels begin than there are steps
pub few_starts : (steps : List Step) → length (starts_of steps) ≤ length steps
few_starts [] = omega arith
few_starts (s ∷ steps) = search (arith, (few_starts steps))

-- from where the newest level begins, steps are of it
in_level_behind : (newer : List Step) (step : Step) (older : List Step) →
    level_start (newer ++ step ∷ older) ≤ length older → holds (level_of (newer ++ step ∷ older)) step.literal ≡ true
in_level_behind [] step older h = holds_here step.literal (cond (is_decision step) [] (level_of older))
in_level_behind (s ∷ newer) step older h =
    search (arith, length-append, holds_later, (in_level_behind newer step older))

pub in_level : (steps : List Step) (at : ℕ) (l : Literal) → IsAt steps at l → level_start steps ≤ at →
    holds (level_of steps) l ≡ true
in_level steps at l h low = search (arith, in_level_behind)

-- a marked literal of the newest level
some_marked : (marks : List Bool) (steps : List Step) (l : Literal) → holds (level_of steps) l ≡ true →
    marked marks (variable_of l) ≡ true → is_level_marked marks steps ≡ true
some_marked marks [] l h mark = absurd (false≢true h)
some_marked marks (s ∷ steps) l h mark = search (arith, holds_cases, false≢true, (some_marked marks steps l))

pub marked_there : (marks : List Bool) (steps : List Step) (at : ℕ) (l : Literal) → IsAt steps at l →
    level_start steps ≤ at → marked marks (variable_of l) ≡ true → IsMarkedInLevel marks steps l
marked_there marks steps at l h low mark = search (arith, in_level, some_marked)
