-- How a trail is kept.
use Rattle.std.specs.Prelude.{◌≡◌, ℕ, ◌-◌, ◌≤◌, slice_index_or, List, [], ◌∷◌, length, reverse, count_by, vec_capacity, All}
use Rattle.dq_lits.specs.Literal.{variable_of}
use Rattle.learning_trail.specs.declared.trails.Step.{Step}
use Rattle.dq_lits.specs.declared.truth_values.TruthValue.{TruthValue}
use Rattle.learning_trail.specs.Steps.{Trailed, literals_of, starts_of}
use Rattle.dq_lits.specs.Truth.{IsFree}
use Rattle.dq_lits.specs.Table.{Tells}
use Rattle.dq_lits.specs.Truth.{is_assigned}
use Rattle.learning_trail.specs.declared.trails.Trail.TheInside.{Inside}

abbrev pub trailed_in : Inside → Trailed
trailed_in t = record { room = length t.values; steps = reverse t.steps.items }

abbrev pub AreApart : List Step → Type 0
AreApart [] = Unit {0}
AreApart (s ∷ earlier) = IsFree (literals_of earlier) s.literal × AreApart earlier

pub record IsKept (values : List TruthValue) (steps : List Step) : Type 0 where
  pub told : Tells values (literals_of steps)
  pub in_range : All (λ s. variable_of s.literal ≤ length values) steps
  pub apart : AreApart steps
  pub counted : length steps ≤ count_by is_assigned values

-- where a step stands is noted for its variable
pub record IsPlaced (places : List ℕ) (s : Step) (at : ℕ) : Type 0 where
  pub from_one : 1 ≤ variable_of s.literal
  pub at_place : slice_index_or places (variable_of s.literal - 1) 0 ≡ at

abbrev pub ArePlaced : List ℕ → List Step → Type 0
ArePlaced places [] = Unit {0}
ArePlaced places (s ∷ earlier) = IsPlaced places s (length earlier) × ArePlaced places earlier

pub record IsTrail (t : Inside) : Type 0 where
  pub kept : IsKept t.values (reverse t.steps.items)
  pub room : length t.values ≤ vec_capacity t.steps
  pub placed : ArePlaced t.places.items (reverse t.steps.items)
  pub places : length t.places.items ≡ length t.values
  pub starts : reverse t.starts.items ≡ starts_of (reverse t.steps.items)
  pub starts_room : length t.values ≤ vec_capacity t.starts
