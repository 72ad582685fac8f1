-- The literals that were made true, newest first.
use Rattle.std.specs.Prelude.{◌≡◌, ℕ, Bool, true, false, List, [], ◌∷◌, Option, None, Some, if◌then◌else◌, ◌++◌, All, length, slice_index_or}
use Rattle.dq_lits.specs.Literal.{Literal}
use Rattle.learning_trail.specs.declared.trails.Step.{Step}

-- what a trail stands for: its steps, and how many variables it has room for
pub record Trailed : Type 0 where
  pub room : ℕ
  pub steps : List Step

abbrev pub literals_of : List Step → List Literal
literals_of [] = []
literals_of (s ∷ earlier) = s.literal ∷ literals_of earlier

abbrev pub is_none : Option ℕ → Bool
is_none None = true
is_none (Some _) = false

abbrev pub is_decision : Step → Bool
is_decision s = is_none s.reason

-- what is left without the newest level; nothing, where nothing was decided
abbrev pub under_level : List Step → List Step
under_level [] = []
under_level (s ∷ earlier) = if is_decision s then earlier else under_level earlier

-- the literals of the newest level; all, where nothing was decided
abbrev pub level_of : List Step → List Literal
level_of [] = []
level_of (s ∷ earlier) = s.literal ∷ (if is_decision s then [] else level_of earlier)

-- where each level begins, the newest one first
abbrev pub starts_of : List Step → List ℕ
starts_of [] = []
starts_of (s ∷ earlier) = if is_decision s then length earlier ∷ starts_of earlier else starts_of earlier

-- where the newest level begins; 0, where nothing was decided
abbrev pub level_start : List Step → ℕ
level_start steps = slice_index_or (starts_of steps) 0 0

abbrev pub decision_of : List Step → Option Literal
decision_of [] = None
decision_of (s ∷ earlier) = if is_decision s then Some s.literal else decision_of earlier

-- steps were added, none of them decided
pub record Grown (old new : List Step) : Type 0 where
  pub more : List Step
  pub is : new ≡ more ++ old
  pub implied : All (λ s. is_decision s ≡ false) more

-- steps were taken back
pub record Shrunk (old new : List Step) : Type 0 where
  pub popped : List Step
  pub is : old ≡ popped ++ new

-- whole levels were taken back, and at least one
pub record IsUnder (old new : List Step) : Type 0 where
  pub popped : List Step
  pub decision : Step
  pub decided : is_decision decision ≡ true
  pub is : old ≡ popped ++ decision ∷ new

-- a literal at a place of the trail, the oldest one at 0
pub record IsAt (steps : List Step) (at : ℕ) (l : Literal) : Type 0 where
  pub newer : List Step
  pub step : Step
  pub older : List Step
  pub is : steps ≡ newer ++ step ∷ older
  pub count : length older ≡ at
  pub literal : step.literal ≡ l
