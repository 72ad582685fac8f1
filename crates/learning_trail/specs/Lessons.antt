-- What a conflict teaches.
use Rattle.std.specs.Prelude.{◌≡◌, ℕ, Bool, true, false, List, [], ◌∷◌, ◌⊎◌, None, Some, map}
use Rattle.dq_lits.specs.Literal.{Literal, variable_of, is_negative, opposite}
use Rattle.dq_lits.specs.Derivation.{LiveClauses, holds}
use Rattle.hint_log.specs.Entries.{Entry}
use Rattle.hint_log.specs.Naming.{is_selector}
use Rattle.learning_trail.specs.declared.trails.Step.{Step}
use Rattle.learning_trail.specs.declared.assumptions.Next.{Next}
use Rattle.learning_trail.specs.declared.assumptions.Next.TheVariants.{AllTrue, False, Free}
use Rattle.learning_trail.specs.Steps.{Trailed, literals_of, level_of, is_decision, decision_of, Shrunk, IsUnder}
use Rattle.dq_lits.specs.Truth.{IsFree}
use Rattle.learning_trail.specs.Sound.{AreTrue}
use Rattle.learning_trail.specs.Marks.{marked, is_level_marked}
use Rattle.learning_trail.specs.Analyses.{IsAnalysis, AllStand}

-- the clause of the negations of a step's literal and of the literals below that are marked; hints
-- newest first
pub record IsLesson (live : LiveClauses) (old new : Trailed) (step : Step) (marks : List Bool)
    (clause : List Literal) (hints : List ℕ) : Type 0 where
  pub room : new.room ≡ old.room
  pub shrunk : Shrunk old.steps (step ∷ new.steps)
  pub first : is_decision step ≡ false → is_level_marked marks new.steps ≡ false
  pub level : decision_of (step ∷ new.steps) ≡ decision_of old.steps
  pub has_first : holds clause (opposite step.literal) ≡ true
  pub has_rest : (t : Literal) → holds (literals_of new.steps) t ≡ true
      → marked marks (variable_of t) ≡ true → holds clause (opposite t) ≡ true
  pub only : (l : Literal) → holds clause l ≡ true
      → (l ≡ opposite step.literal)
      ⊎ ((holds (literals_of new.steps) (opposite l) ≡ true)
      × (marked marks (variable_of l) ≡ true))
  pub negated : (entries : List Entry) → AllStand entries live → (l : Literal)
      → holds clause l ≡ true → is_selector entries (variable_of l) ≡ true → is_negative l ≡ true
  pub analysis : (entries : List Entry) → AllStand entries live
      → IsAnalysis entries live [] (map opposite clause) marks hints

abbrev pub IsNext : List Literal → List Literal → Next → Type 0
IsNext assumptions trues AllTrue = AreTrue assumptions trues
IsNext assumptions trues (False l) =
    (holds assumptions l ≡ true) × (holds trues (opposite l) ≡ true)
IsNext assumptions trues (Free l) = (holds assumptions l ≡ true) × IsFree trues l

-- levels were taken back, down to one that has a mark, or to none
pub record IsJump (old new : Trailed) (marks : List Bool) : Type 0 where
  pub room : new.room ≡ old.room
  pub shrunk : Shrunk old.steps new.steps
  pub kept : (t : Literal) → holds (literals_of old.steps) t ≡ true
      → marked marks (variable_of t) ≡ true → holds (literals_of new.steps) t ≡ true
  pub ended : (decision_of new.steps ≡ None) ⊎ (is_level_marked marks new.steps ≡ true)

-- a marked literal of the newest level
pub record IsMarkedInLevel (marks : List Bool) (steps : List Step) (l : Literal) : Type 0 where
  pub mark : marked marks (variable_of l) ≡ true
  pub level : holds (level_of steps) l ≡ true
  pub some : is_level_marked marks steps ≡ true

-- the step that the clause learned from a step implies
abbrev pub landed : Step → ℕ → Step
landed step id = record { literal = opposite step.literal; reason = Some id }

pub record LandsBehind (old new : Trailed) (step : Step) (marks : List Bool) (id : ℕ) : Type 0 where
  pub back : Trailed
  pub jump : IsJump old back marks
  pub is : new ≡ record { room = back.room; steps = landed step id ∷ back.steps }

-- a step's literal was made true behind a level that has this marked literal
pub record LandsInLevel (old new : Trailed) (step : Step) (marks : List Bool) (id : ℕ)
    (l : Literal) : Type 0 where
  pub behind : LandsBehind old new step marks id
  pub under : IsUnder (step ∷ old.steps) behind.back.steps
  pub level : IsMarkedInLevel marks behind.back.steps l

-- everything was taken back, or whole levels, and the clause's literal was made true
abbrev pub IsLanded : Trailed → Trailed → Step → List Bool → ℕ → Type 0
IsLanded old new step marks id =
    (new ≡ record { room = old.room; steps = [] }) ⊎ LandsBehind old new step marks id
