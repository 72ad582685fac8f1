-- A number of its own for each literal: twice the variable, and one more for a negated variable (as
-- in AIGER).
use Rattle.std.specs.Prelude.{◌≡◌, ℕ, ◌+◌, ◌*◌, List, map, IfSome}
use Rattle.dq_lits.specs.Literal.{Literal, positive, negative}
use Rattle.number_tables.specs.Numbers.{has_number}
use Rattle.dqdimacs_reader.specs.declared.distinct.DistinctLiterals.TheInside.{Inside}

abbrev pub literal_key : Literal → ℕ
literal_key (positive v) = 2 * v
literal_key (negative v) = 2 * v + 1

abbrev pub literals_inside : Inside → List Literal
literals_inside d = d.literals.items

-- the same numbers as the keys of these literals
abbrev pub AreKeysOf : List Literal → List ℕ → Type 0
AreKeysOf literals keys = (n : ℕ) → has_number keys n ≡ has_number (map literal_key literals) n

abbrev pub HasKeys : Inside → Type 0
HasKeys d = IfSome d.keys (AreKeysOf d.literals.items)
