-- A number for each literal.
use Rattle.std.specs.Prelude.{ℕ, ◌+◌, ◌*◌}
use Rattle.dq_lits.specs.Literal.{Literal, positive, negative}

abbrev pub literal_code : Literal → ℕ
literal_code (positive v) = 2 * v
literal_code (negative v) = 2 * v + 1
