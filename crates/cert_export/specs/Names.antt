-- New names of variables, in a table.
use Rattle.std.specs.Prelude.{◌≡◌, ℕ, ◌≤◌, ◌<◌, ◌^◌, List, length, slice_index}
use Rattle.std.specs.List.{All}
use Rattle.std.specs.Option.{option_map}
use Rattle.number_tables.specs.Numbers.{place_of}
use Rattle.cert_export.specs.Renaming.{Renaming}

-- variables, and for each its new name
pub record NameTable : Type 0 where
  pub variables : List ℕ
  pub names : List ℕ

abbrev pub renaming : NameTable → Renaming
renaming t v = option_map (slice_index t.names) (place_of t.variables v)

-- a variable's number
abbrev pub IsVariable : ℕ → Type 0
IsVariable v = (1 ≤ v) × (v < 2 ^ 62)

pub record IsNameTable (t : NameTable) : Type 0 where
  pub many : length t.names ≡ length t.variables
  pub in_range : All IsVariable t.names
