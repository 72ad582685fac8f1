-- Clauses with ids, read a literal at a time.
use Rattle.std.specs.Prelude.{ℕ, List, length, Option, None, Some}
use Rattle.std.specs.List.{slice_get}
use Rattle.dq_lits.specs.Literal.{Literal}

abbrev pub clause_size : Option (List Literal) → Option ℕ
clause_size None = None
clause_size (Some clause) = Some (length clause)

-- by the place from 0
abbrev pub literal_at : Option (List Literal) → ℕ → Option Literal
literal_at None i = None
literal_at (Some clause) i = slice_get clause i
