-- The symbols of a circuit file: names for places of its inputs and outputs.
use Rattle.std.specs.Prelude.{ℕ, nat_eq, List, Option}
use Rattle.std.specs.Map.{lookup}

-- names by place, from 0, in order of their lines
pub record SymbolTable : Type 0 where
  pub inputs : List (ℕ × List ℕ)
  pub outputs : List (ℕ × List ℕ)

-- the name of a place, if it has one
abbrev pub name_at : List (ℕ × List ℕ) → ℕ → Option (List ℕ)
name_at symbols place = lookup (nat_eq place) symbols
