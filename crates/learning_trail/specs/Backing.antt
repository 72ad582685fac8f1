-- How far a trail was taken back, and what was noted meanwhile.
use Rattle.std.specs.Prelude.{◌≡◌, ℕ, Bool, true, false, List, ◌∷◌, ◌++◌, map, length, reverse, Some, ◌⊎◌}
use Rattle.dq_lits.specs.Literal.{Literal, variable_of, opposite}
use Rattle.dq_lits.specs.Derivation.{LiveClauses, holds}
use Rattle.hint_log.specs.Entries.{Entry}
use Rattle.learning_trail.specs.declared.trails.Step.{Step}
use Rattle.learning_trail.specs.Steps.{Trailed, literals_of, is_decision, decision_of, Shrunk}
use Rattle.learning_trail.specs.Sound.{IsSound, AreAssumed}
use Rattle.learning_trail.specs.Marks.{marked, is_level_marked}
use Rattle.learning_trail.specs.Noting.{Noted}
use Rattle.learning_trail.specs.Analyses.{IsAnalysis, AllStand}

-- an analysis of the notes goes on from one trail to another
abbrev pub LeadsOn : LiveClauses → List Step → List Step → Noted → Noted → Type 0
LeadsOn live old new was now =
    (entries : List Entry) → AllStand entries live
    → IsAnalysis entries live (literals_of old) (map opposite was.literals) was.marks
    (reverse was.hints)
    → IsAnalysis entries live (literals_of new) (map opposite now.literals) now.marks
    (reverse now.hints)

-- from old to new in a level that has a mark
pub record IsBacking (live : LiveClauses) (old new : Trailed) (was now : Noted) : Type 0 where
  pub len : length now.marks ≡ length was.marks
  pub literals : now.literals ≡ was.literals
  pub room : new.room ≡ old.room
  pub sound : IsSound live new.steps
  pub shrunk : Shrunk old.steps new.steps
  pub some : is_level_marked now.marks new.steps ≡ true
  pub level : decision_of new.steps ≡ decision_of old.steps
  pub analysis : LeadsOn live old.steps new.steps was now

-- down to a step whose literal alone is marked in its level
pub record IsFirstPoint (live : LiveClauses) (old new : Trailed) (step : Step)
    (was now : Noted) : Type 0 where
  pub len : length now.marks ≡ length was.marks
  pub literals : now.literals ≡ was.literals
  pub room : new.room ≡ old.room
  pub shrunk : Shrunk old.steps (step ∷ new.steps)
  pub mark : marked now.marks (variable_of step.literal) ≡ true
  pub first : is_decision step ≡ false → is_level_marked now.marks new.steps ≡ false
  pub level : decision_of (step ∷ new.steps) ≡ decision_of old.steps
  pub analysis : LeadsOn live old.steps (step ∷ new.steps) was now

-- from old to new, where the negations of decisions are noted
pub record IsKeeping (live : LiveClauses) (old new : Trailed) (was now : Noted) : Type 0 where
  pub len : length now.marks ≡ length was.marks
  pub room : new.room ≡ old.room
  pub sound : IsSound live new.steps
  pub negated : (assumptions : List Literal) → AreAssumed assumptions old.steps
      → ((l : Literal) → holds was.literals l ≡ true → holds assumptions (opposite l) ≡ true)
      → AreAssumed assumptions new.steps
      × ((l : Literal) → holds now.literals l ≡ true → holds assumptions (opposite l) ≡ true)
  pub analysis : LeadsOn live old.steps new.steps was now

-- down to the rest of the steps, where the negations of the literals that stay marked are noted
pub record IsTrimmed (live : LiveClauses) (steps rest : List Step) (was now : Noted) : Type 0 where
  pub len : length now.marks ≡ length was.marks
  pub done : List Step
  pub split : steps ≡ done ++ rest
  pub fewer : (v : ℕ) → marked now.marks v ≡ true → marked was.marks v ≡ true
  pub keeps : (l : Literal) → holds was.literals l ≡ true → holds now.literals l ≡ true
  pub has : (t : Literal) → holds (literals_of done) t ≡ true
      → marked now.marks (variable_of t) ≡ true → holds now.literals (opposite t) ≡ true
  pub only : (l : Literal) → holds now.literals l ≡ true
      → (holds was.literals l ≡ true)
      ⊎ ((holds (literals_of done) (opposite l) ≡ true) × (marked now.marks (variable_of l) ≡ true))
  pub analysis : LeadsOn live steps rest was now

-- the reason's other literals are marked
pub record IsRedundant (live : LiveClauses) (marks : List Bool) (step : Step)
    (reason : ℕ) : Type 0 where
  pub is : step.reason ≡ Some reason
  pub others : (c : List Literal) (l : Literal) → live reason ≡ Some c → holds c l ≡ true
      → (variable_of l ≡ variable_of step.literal → ⊥) → marked marks (variable_of l) ≡ true
