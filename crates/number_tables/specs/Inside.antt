-- How a number set is kept.
use Rattle.std.specs.Prelude.{◌≡◌, ℕ, List}
use Rattle.number_tables.specs.Numbers.{place_of}
use Rattle.number_tables.specs.Places.{place_in}
use Rattle.number_tables.specs.declared.sets.NumberSet.TheInside.{Inside}

abbrev pub numbers_in : Inside → List ℕ
numbers_in s = s.numbers.items

-- each number has its place, and no other one has any
abbrev pub IsIndexed : Inside → Type 0
IsIndexed s = (n : ℕ) → place_in s.places n ≡ place_of s.numbers.items n
