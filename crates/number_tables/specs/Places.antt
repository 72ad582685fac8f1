-- Words of private contracts: a map from numbers to places, in two parts.
use Rattle.std.specs.Prelude.{◌≡◌, ℕ, ◌==◌, Option, Some, slice_index_or, if◌then◌else◌}
use Rattle.std.specs.BTreeMap.{get}
use Rattle.std.specs.Ordering.{nat_cmp}
use Rattle.number_tables.specs.declared.places.Places.{Places}

-- by the table, where it says a place, and else by the map; 2 ^ 32 - 1 is no place of the table
abbrev pub place_in : Places → ℕ → Option ℕ
place_in p n =
    let slot = slice_index_or p.table.items n 4294967295 in
    if slot == 4294967295 then get nat_cmp p.rest n else Some slot

-- one more number with a place
abbrev pub Puts : (ℕ → Option ℕ) → (ℕ → Option ℕ) → ℕ → ℕ → Type 0
Puts old new number place = (n : ℕ) → new n ≡ (if number == n then Some place else old n)
