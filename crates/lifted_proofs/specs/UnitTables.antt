-- Units that were taken, oldest first, each found by its variable.
use Rattle.std.specs.Prelude.{◌≡◌, ◌≢◌, ◌==◌, ◌<◌, ℕ, Bool, true, false, List, length, reverse, take, Option, None, Some, slice_index_or}
use Rattle.std.specs.List.{position, slice_get}
use Rattle.dq_lits.specs.Literal.{Literal, variable_of, opposite}
use Rattle.dq_lits.specs.Formula.{Dqbf, IsWellFormed}
use Rattle.dq_lits.specs.Derivation.{holds}
use Rattle.dq_formula.specs.Prefix.{IsLawful, existential_variables}
use Rattle.dq_prep.specs.declared.traces.Taken.{Taken}
use Rattle.dq_prep.specs.Units.{AreUnits, taken_literals}
use Rattle.lifted_proofs.specs.declared.units.UnitTable.{UnitTable}

-- the first units, so many; the newest stands first
abbrev pub first_units : List Taken → ℕ → List Taken
first_units units count = reverse (take count units)

-- their literals
abbrev pub first_literals : List Taken → ℕ → List Literal
first_literals units count = taken_literals (first_units units count)

-- of the first units, so many, the place of the one on a variable, if there is one
abbrev pub TellsUnit : List Taken → ℕ → ℕ → Option ℕ → Type 0
TellsUnit units count v None =
    (j : ℕ) (u : Taken) → j < count → slice_get units j ≡ Some u → variable_of u.literal ≢ v
TellsUnit units count v (Some place) =
    (place < count)
    × ((j : ℕ) (u : Taken) → j < count → slice_get units j ≡ Some u → variable_of u.literal ≡ v
    → j ≡ place)

-- each existential, found by its place, has the place of the unit on it
abbrev pub TellUnits : Dqbf → List Taken → ℕ → List (Option ℕ) → Type 0
TellUnits f units count on = (v place : ℕ)
    → position (λ y. y == v) (existential_variables f) ≡ Some place
    → TellsUnit units count v (slice_index_or on place None)

pub record IsUnitTable (t : UnitTable) : Type 0 where
  pub well : IsWellFormed t.formula.now
  pub lawful : IsLawful t.formula.now
  pub units : AreUnits t.formula.now (reverse t.units.now)
  pub many : length t.on.items ≡ length t.formula.now.existentials
  pub tell : TellUnits t.formula.now t.units.now (length t.units.now) t.on.items

-- of the first units, so many: the place of the one that makes the literal false
abbrev pub IsFalseBy : List Taken → ℕ → Literal → Option ℕ → Type 0
IsFalseBy units count l None = holds (first_literals units count) (opposite l) ≡ false
IsFalseBy units count l (Some j) =
    (j < count) × ((u : Taken) × ((slice_get units j ≡ Some u) × (u.literal ≡ opposite l)))

-- whether the unit at a place makes the literal false
abbrev pub IsFalseAt : List Taken → ℕ → Literal → Bool → Type 0
IsFalseAt units j l true = (u : Taken) × ((slice_get units j ≡ Some u) × (u.literal ≡ opposite l))
IsFalseAt units j l false = (u : Taken) → slice_get units j ≡ Some u → u.literal ≡ opposite l → ⊥
