-- How far a pass has come.
use Rattle.std.specs.Prelude.{◌≡◌, ℕ, suc, ◌≤◌, ◌<◌, Bool, true, false, length}
use Rattle.dq_lits.specs.Derivation.{LiveClauses, status_of, stuck}
use Rattle.learning_trail.specs.Steps.{Trailed, literals_of, Grown}
use Rattle.learning_trail.specs.Sound.{IsSound}

pub record IsScanned (live : LiveClauses) (old new : Trailed) (quiet : Bool)
    (first i : ℕ) : Type 0 where
  pub room : new.room ≡ old.room
  pub sound : IsSound live new.steps
  pub grown : Grown old.steps new.steps
  pub few : length old.steps ≤ old.room → length new.steps ≤ old.room
  pub still : quiet ≡ true
      → (new ≡ old)
      × ((j : ℕ) → first ≤ j → j < i → status_of (literals_of new.steps) (live (suc j)) ≡ stuck)
  pub moved : quiet ≡ false → length old.steps < length new.steps

pub record IsPropagating (live : LiveClauses) (old new : Trailed) : Type 0 where
  pub room : new.room ≡ old.room
  pub sound : IsSound live new.steps
  pub grown : Grown old.steps new.steps
  pub few : length new.steps ≤ new.room
