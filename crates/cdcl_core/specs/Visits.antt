-- Clauses are visited whose watched literal became false.
use Rattle.std.specs.Prelude.{◌≡◌, ℕ, suc, ◌-◌, ◌≤◌, ◌<◌, true, false, List, [], ◌∷◌, ◌++◌, length, Option, Some, MatchOption, slice_get, Contains, ◌⊎◌}
use Rattle.std.specs.List.{list_any}
use Rattle.dq_lits.specs.Literal.{Literal, opposite, same_literal}
use Rattle.dq_lits.specs.Derivation.{holds, status_of, falsified}
use Rattle.oracle.specs.Fit.{live_in}
use Rattle.cdcl_core.specs.declared.propagation.Look.{Look}
use Rattle.cdcl_core.specs.declared.propagation.Look.TheVariants.{Kept, Moved, Falsified}
use Rattle.learning_trail.specs.declared.trails.Step.{Step}
use Rattle.cdcl_core.specs.declared.watches.Watches.{Watches}
use Rattle.learning_trail.specs.Steps.{Trailed, literals_of, Grown, IsAt}
use Rattle.dq_lits.specs.Truth.{IsFree}
use Rattle.learning_trail.specs.Sound.{IsSound}
use Rattle.learning_trail.specs.Passes.{AreWithin}
use Rattle.cdcl_core.specs.Chains.{watch_at, has, HasList, IsLinked, IsLeft}
use Rattle.cdcl_core.specs.Watching.{AreWatched, AreMoved, Guards, AreShortTrue, IsGuarded, AreLevelsGuarded, AreShort, AreSame}

-- every literal of every clause has a list
abbrev pub AreListed : List (List Literal) → Watches → Type 0
AreListed clauses w =
    (i : ℕ) (c : List Literal) (l : Literal) → slice_get clauses i ≡ Some c → holds c l ≡ true
    → HasList w l

-- clauses, a trail, and the watches on one side and the other
pub record IsVisitable (clauses : List (List Literal)) (trail : Trailed)
    (these others : Watches) : Type 0 where
  pub in_range : AreWithin trail.room clauses
  pub sound : IsSound (live_in clauses) trail.steps
  pub few : length trail.steps ≤ trail.room
  pub watched : AreWatched clauses these.literals.items others.literals.items
  pub count : length these.literals.items ≡ length clauses
  pub other_count : length others.literals.items ≡ length clauses
  pub listed : AreListed clauses these
  pub other_listed : AreListed clauses others

-- all literals but one are false
abbrev pub AreOthersFalse : List Literal → List Literal → Literal → Type 0
AreOthersFalse trues clause other =
    (k : Literal) → holds clause k ≡ true → same_literal k other ≡ false
    → holds trues (opposite k) ≡ true

-- the other watched literal was made true, for all others are false
pub record IsMadeTrue (clause : List Literal) (old new : Trailed) (other : Literal)
    (id : ℕ) : Type 0 where
  pub free : IsFree (literals_of old.steps) other
  pub others : AreOthersFalse (literals_of old.steps) clause other
  pub is : new
      ≡ record { room = old.room; steps = record { literal = other; reason = Some id } ∷ old.steps }

-- another literal of the clause isn't false
pub record IsOther (trues clause : List Literal) (other k : Literal) : Type 0 where
  pub among : holds clause k ≡ true
  pub apart : same_literal k other ≡ false
  pub not_false : holds trues (opposite k) ≡ false

-- the literal at a place is such a one
pub record IsOtherAt (trues clause : List Literal) (other : Literal) (place : ℕ) : Type 0 where
  pub within : place < length clause
  pub is_other : IsOther trues clause other (watch_at clause place)

abbrev pub IsLooked : List Literal → ℕ → Trailed → Trailed → Literal → Look → Type 0
IsLooked clause id old new other Kept =
    ((new ≡ old) × (holds (literals_of old.steps) other ≡ true))
    ⊎ IsMadeTrue clause old new other id
IsLooked clause id old new other (Moved k) =
    (new ≡ old) × IsOther (literals_of old.steps) clause other k
IsLooked clause id old new other Falsified =
    (new ≡ old)
    × ((k : Literal) → holds clause k ≡ true → holds (literals_of old.steps) (opposite k) ≡ true)

-- where the watch at a place stands on this literal, the other one is true
abbrev pub IsDone : List Literal → List Literal → List Literal → Literal → ℕ → Type 0
IsDone trues these others l i =
    same_literal (watch_at these i) (watch_at others i) ≡ false → watch_at these i ≡ l
    → holds trues (watch_at others i) ≡ true

-- what one visit comes to: the next id, or a conflict
pub record IsVisited (clauses : List (List Literal)) (old new : Trailed) (was now others : Watches)
    (l : Literal) (id : ℕ) (next : Option ℕ) : Type 0 where
  pub visitable : IsVisitable clauses new now others
  pub room : new.room ≡ old.room
  pub grown : Grown old.steps new.steps
  pub moved : AreMoved (literals_of old.steps) was.literals.items now.literals.items
      others.literals.items
  pub elsewhere : (i : ℕ) → (i ≡ id - 1 → ⊥)
      → watch_at now.literals.items i ≡ watch_at was.literals.items i
  pub linked : (rest : List ℕ) → IsLinked was id (id ∷ rest)
      → MatchOption next (IsLinked now id (id ∷ rest)) (λ n. IsLinked now n rest)
  pub lists : length now.heads.items ≡ length was.heads.items
  pub ended : MatchOption next
      ((now ≡ was) × (status_of (literals_of new.steps) (live_in clauses id) ≡ falsified))
      (λ _. IsDone (literals_of new.steps) now.literals.items others.literals.items l (id - 1))

-- what the visits of a whole list come to: none, or a conflict
pub record IsListVisited (clauses : List (List Literal)) (old new : Trailed)
    (was now others : Watches) (l : Literal) (found : Option ℕ) : Type 0 where
  pub visitable : IsVisitable clauses new now others
  pub room : new.room ≡ old.room
  pub grown : Grown old.steps new.steps
  pub moved : AreMoved (literals_of old.steps) was.literals.items now.literals.items
      others.literals.items
  pub linked : IsLinked now 0 []
  pub ended : MatchOption found
      ((i : ℕ) → IsDone (literals_of new.steps) now.literals.items others.literals.items l i)
      (λ id. status_of (literals_of new.steps) (live_in clauses id) ≡ falsified)

-- the visits of a list go on
pub record IsVisiting (clauses : List (List Literal)) (old new : Trailed) (was now others : Watches)
    (l : Literal) (at : ℕ) : Type 0 where
  pub visitable : IsVisitable clauses new now others
  pub room : new.room ≡ old.room
  pub grown : Grown old.steps new.steps
  pub moved : AreMoved (literals_of old.steps) was.literals.items now.literals.items
      others.literals.items
  pub rest : List ℕ
  pub linked : IsLinked now at rest
  pub watched : (id : ℕ) → has rest id ≡ true → watch_at now.literals.items (id - 1) ≡ l
  pub done : (i : ℕ)
      → (has rest (suc i) ≡ true)
      ⊎ IsDone (literals_of new.steps) now.literals.items others.literals.items l i

-- the notes on short clauses stay right
abbrev pub KeepsShort : List (List Literal) → Watches → Watches → Watches → Watches → Type 0
KeepsShort clauses was now was_second now_second =
    (short : List ℕ) → AreShort clauses was.literals.items was_second.literals.items short
    → AreShort clauses now.literals.items now_second.literals.items short

-- what the visits of the clauses come to that are watched at the negation of the literal at a place
pub record IsPlaceVisited (clauses : List (List Literal)) (old new : Trailed)
    (was now others : Watches) (at : ℕ) (found : Option ℕ) : Type 0 where
  pub literal : Literal
  pub here : IsAt old.steps at literal
  pub visited : IsListVisited clauses old new was now others (opposite literal) found

-- the trail was visited to its end, or to a conflict
pub record IsTrailVisited (clauses : List (List Literal)) (old new : Trailed)
    (was now was_second now_second : Watches) (found : Option ℕ) : Type 0 where
  pub visitable : IsVisitable clauses new now now_second
  pub linked : IsLinked now 0 []
  pub second_linked : IsLinked now_second 0 []
  pub room : new.room ≡ old.room
  pub grown : Grown old.steps new.steps
  pub short : KeepsShort clauses was now was_second now_second
  pub levels : AreLevelsGuarded clauses now.literals.items now_second.literals.items new.steps
  pub ended : MatchOption found
      (IsGuarded clauses now.literals.items now_second.literals.items (literals_of new.steps)
      (literals_of new.steps))
      (λ id. status_of (literals_of new.steps) (live_in clauses id) ≡ falsified)

-- the oldest literals of a trail were processed on one side
pub record IsSideProcessed (these others : List Literal) (steps : List Step)
    (at : ℕ) : Type 0 where
  pub newer : List Step
  pub older : List Step
  pub is : steps ≡ newer ++ older
  pub count : length older ≡ at
  pub guards : Guards (literals_of older) (literals_of steps) these others

-- so many of them on the first side, and so many on the second
pub record IsProcessed (clauses : List (List Literal)) (first second : List Literal)
    (steps : List Step) (at second_at : ℕ) : Type 0 where
  pub first_side : IsSideProcessed first second steps at
  pub second_side : IsSideProcessed second first steps second_at
  pub short : AreShortTrue clauses first second (literals_of steps)
  pub levels : AreLevelsGuarded clauses first second steps

-- the visits of a trail go on
pub record AreOnTrail (clauses : List (List Literal)) (old new : Trailed)
    (was now was_second now_second : Watches) (at second_at : ℕ) : Type 0 where
  pub visitable : IsVisitable clauses new now now_second
  pub linked : IsLinked now 0 []
  pub second_linked : IsLinked now_second 0 []
  pub room : new.room ≡ old.room
  pub grown : Grown old.steps new.steps
  pub short : KeepsShort clauses was now was_second now_second
  pub processed : IsProcessed clauses now.literals.items now_second.literals.items new.steps at
      second_at

-- clauses are put back
pub record IsPuttingBack (was now : Watches) (l : Literal) (at : ℕ) : Type 0 where
  pub left : IsLeft now at l
  pub literals : now.literals.items ≡ was.literals.items
  pub lists : length now.heads.items ≡ length was.heads.items

-- the first short clauses were looked at
pub record IsPassing (clauses : List (List Literal)) (old new : Trailed)
    (passed : List ℕ) : Type 0 where
  pub room : new.room ≡ old.room
  pub sound : IsSound (live_in clauses) new.steps
  pub grown : Grown old.steps new.steps
  pub few : length new.steps ≤ new.room
  pub true_now : (id : ℕ) (c : List Literal) → Contains passed id → live_in clauses id ≡ Some c
      → AreSame c → list_any (holds (literals_of new.steps)) c ≡ true
