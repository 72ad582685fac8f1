-- The order in which goals are derived.
use Rattle.std.specs.Prelude.{◌≡◌, ◌<◌, ℕ, List, length, Some}
use Rattle.std.specs.List.{All, Contains, slice_get}
use Rattle.std.specs.List.Sorted.{IsNonDecreasingBy}
use Rattle.lifted_proofs.specs.declared.goals.Goal.{Goal}
use Rattle.lifted_proofs.specs.declared.turns.Turn.{Turn}

pub record IsTurn (goals : List Goal) (t : Turn) : Type 0 where
  pub goal : Goal
  pub at : slice_get goals t.goal ≡ Some goal
  pub taken : t.taken ≡ goal.source.taken

abbrev pub turn_of : Goal → ℕ → Turn
turn_of g q = record { taken = g.source.taken; goal = q }

-- the first goals, so many, have their turns
pub record TurnAll (goals : List Goal) (count : ℕ) (turns : List Turn) : Type 0 where
  pub each : All (IsTurn goals) turns
  pub all : (q : ℕ) (g : Goal) → q < count → slice_get goals q ≡ Some g
      → Contains turns (turn_of g q)

-- all have, and those with fewer units come first
pub record AreTurns (goals : List Goal) (turns : List Turn) : Type 0 where
  pub all : TurnAll goals (length goals) turns
  pub sorted : IsNonDecreasingBy (λ t. t.taken) turns
