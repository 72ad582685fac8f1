-- Words of private contracts: how the variables of a formula are bound, in one table.
use Rattle.std.specs.Prelude.{◌≡◌, ◌≢◌, ℕ, ◌+◌, ◌==◌, ◌<◌, ◌≤◌, Bool, true, false, List, length, Some, IsSome, slice_index, slice_index_or}
use Rattle.std.specs.List.{position}
use Rattle.dq_lits.specs.Formula.{Dqbf, existential_of}
use Rattle.dq_formula.specs.Prefix.{existential_variables}
use Rattle.refutation_checker.specs.RowTrees.{sees_of}
use Rattle.refutation_checker.specs.declared.bindings.Binding.{Binding}
use Rattle.refutation_checker.specs.declared.bindings.Binding.TheVariants.{Universal, Existential, Free}
use Rattle.refutation_checker.specs.declared.bindings.DependencySet.{DependencySet}

abbrev pub set_at : List DependencySet → ℕ → DependencySet
set_at sets c = slice_index_or sets c (record { leader = 0; size = 0 })

abbrev pub binding_at : List Binding → ℕ → Binding
binding_at bindings v = slice_index_or bindings v Free

abbrev pub with_one_more : DependencySet → DependencySet
with_one_more set = record set { size = set.size + 1 }

abbrev pub new_set : ℕ → DependencySet
new_set leader = record { leader = leader; size = 0 }

-- a universal by its place; an existential by its set and its place among those that have the set
abbrev pub IsBinding : Dqbf → List DependencySet → ℕ → Binding → Type 0
IsBinding f sets v (Universal place) = position (λ x. x == v) f.universals ≡ Some place
IsBinding f sets v (Existential c place) =
    IsSome (existential_of f v) × (c < length sets)
    × (sees_of f (set_at sets c).leader ≡ sees_of f v) × (place < (set_at sets c).size)
IsBinding f sets v Free = Unit {0}

abbrev pub is_existential : Binding → Bool
is_existential (Universal _) = false
is_existential (Existential _ _) = true
is_existential Free = false

-- bindings are as declared, and those of existentials differ; a set has at most `count` of them
pub record AreBindings (f : Dqbf) (sets : List DependencySet) (bindings : List Binding) (count : ℕ)
    : Type 0 where
  pub each : (v : ℕ) → IsBinding f sets v (binding_at bindings v)
  pub apart : (v w c place : ℕ) → binding_at bindings v ≡ Existential c place
      → binding_at bindings w ≡ Existential c place → v ≡ w
  pub led : (c : ℕ) → c < length sets → IsSome (existential_of f (set_at sets c).leader)
  pub few_sets : length sets ≤ count
  pub few : (c : ℕ) → c < length sets → (set_at sets c).size ≤ count

-- the existential at a place
abbrev pub variable_at : Dqbf → ℕ → ℕ
variable_at f place = slice_index (existential_variables f) place

-- the existential at a place has this set, and no more others than stand before it
pub record IsSetFor (f : Dqbf) (sets : List DependencySet) (place set : ℕ) : Type 0 where
  pub within : set < length sets
  pub sees : sees_of f (set_at sets set).leader ≡ sees_of f (variable_at f place)
  pub few : (set_at sets set).size ≤ place

-- as before, but for a variable that is bound as an existential now
pub record IsWritten (old new : List Binding) (y : ℕ) : Type 0 where
  pub count : length new ≡ length old
  pub here : is_existential (binding_at new y) ≡ true
  pub others : (v : ℕ) → v ≢ y → binding_at new v ≡ binding_at old v

-- every existential is bound as one
pub record AreAllBound (f : Dqbf) (sets : List DependencySet) (of : List Binding) : Type 0 where
  pub bindings : AreBindings f sets of 1000001
  pub complete : (v : ℕ) → IsSome (existential_of f v)
      → is_existential (binding_at of v) ≡ true
