-- What is so of every trail: why each literal is true, and that propagation had come to its end
-- before each decision.
use Rattle.std.specs.Prelude.{◌≡◌, ℕ, true, List, [], ◌∷◌, Option, None, Some, IsSome, ◌⊎◌}
use Rattle.dq_lits.specs.Literal.{Literal, variable_of, is_negative}
use Rattle.dq_lits.specs.Derivation.{LiveClauses, holds, status_of, unit}
use Rattle.hint_log.specs.Entries.{Entry}
use Rattle.hint_log.specs.Entries.{name_of}
use Rattle.hint_log.specs.Naming.{is_selector}
use Rattle.hint_log.specs.ProductiveLog.{IsClosed}
use Rattle.learning_trail.specs.declared.trails.Step.{Step}
use Rattle.learning_trail.specs.Steps.{literals_of, is_decision}
use Rattle.dq_lits.specs.Truth.{IsFree}

abbrev pub IsReasoned : LiveClauses → List Literal → Literal → Option ℕ → Type 0
IsReasoned live trues l None = IsClosed live trues
IsReasoned live trues l (Some id) = status_of trues (live id) ≡ unit l

-- of each step and the earlier ones
pub record StepIsSound (live : LiveClauses) (earlier : List Step) (s : Step) : Type 0 where
  pub free : IsFree (literals_of earlier) s.literal
  pub reasoned : IsReasoned live (literals_of earlier) s.literal s.reason

abbrev pub IsSound : LiveClauses → List Step → Type 0
IsSound live [] = Unit {0}
IsSound live (s ∷ earlier) = StepIsSound live earlier s × IsSound live earlier

-- every assumption is true
abbrev pub AreTrue : List Literal → List Literal → Type 0
AreTrue assumptions trues = (a : Literal) → holds assumptions a ≡ true → holds trues a ≡ true

-- an assumption was decided, or, behind all assumptions, something else that makes no selector true
pub record StepIsGuided (entries : List Entry) (assumptions : List Literal) (earlier : List Step)
    (s : Step) : Type 0 where
  pub named : is_decision s ≡ true → IsSome (name_of entries (variable_of s.literal))
  pub chosen : is_decision s ≡ true → (holds assumptions s.literal ≡ true)
      ⊎ (AreTrue assumptions (literals_of earlier)
      × (is_selector entries (variable_of s.literal) ≡ true → is_negative s.literal ≡ true))

abbrev pub IsGuided : List Entry → List Literal → List Step → Type 0
IsGuided entries assumptions [] = Unit {0}
IsGuided entries assumptions (s ∷ earlier) =
    StepIsGuided entries assumptions earlier s × IsGuided entries assumptions earlier

-- assumptions alone were decided
abbrev pub AreAssumed : List Literal → List Step → Type 0
AreAssumed assumptions [] = Unit {0}
AreAssumed assumptions (s ∷ earlier) =
    (is_decision s ≡ true → holds assumptions s.literal ≡ true) × AreAssumed assumptions earlier
