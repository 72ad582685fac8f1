-- How a literal is kept as a place in a table by literals.
use Rattle.std.specs.Prelude.{ℕ, ◌+◌, ◌*◌, ◌/◌, ◌%◌, ◌==◌, ◌≤◌, ◌<◌, ◌^◌, if◌then◌else◌}
use Rattle.dq_lits.specs.Literal.{Literal, positive, negative, variable_of, is_negative}
use Rattle.learning_trail.specs.declared.codes.Code.TheInside.{Inside}

abbrev pub literal_at : ℕ → Literal
literal_at n = if n % 2 == 0 then positive (n / 2) else negative (n / 2)

abbrev pub number_of : Literal → ℕ
number_of l = variable_of l * 2 + (if is_negative l then 1 else 0)

abbrev pub literal_inside : Inside → Literal
literal_inside c = literal_at c.number

-- of a variable from 1 to 2^62 - 1
abbrev pub IsCode : Inside → Type 0
IsCode c = (2 ≤ c.number) × (c.number < 2 ^ 63)

abbrev pub inside_of : Literal → Inside
inside_of l = record { number = number_of l }
