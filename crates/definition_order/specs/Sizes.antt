-- Words of private contracts: places with how much is seen there, and their ranks.
use Rattle.std.specs.Prelude.{ℕ, [], List, length, slice_index, slice_index_or}
use Rattle.dq_lits.specs.Formula.{Existential, Dqbf}

abbrev pub nobody : Existential
nobody = record { variable = 0; sees = [] }

-- how many universals the existential at a place sees, its rank, and the place
abbrev pub sized_place : Dqbf → List ℕ → ℕ → (ℕ × ℕ) × ℕ
sized_place f ranks p =
    ((length (slice_index_or f.existentials p nobody).sees, slice_index ranks p), p)
