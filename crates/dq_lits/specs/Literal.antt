-- Literals and clauses, and their truth under an assignment (propositional logic).
use Rattle.std.specs.Prelude.{ℕ, suc, ◌+◌, ◌*◌, ◌==◌, ℤ, pos, negsuc, neg_ℤ, Bool, true, false, not, List}
use Rattle.std.specs.List.{list_any}

-- a bit for each variable
abbrev pub Assignment : Type 0
Assignment = ℕ → Bool

-- a variable or its negation
pub data Literal : Type 0 where
  positive : ℕ → Literal
  negative : ℕ → Literal

-- the variable that a literal stands on
abbrev pub variable_of : Literal → ℕ
variable_of (positive v) = v
variable_of (negative v) = v

abbrev pub is_negative : Literal → Bool
is_negative (positive _) = false
is_negative (negative _) = true

-- the literal of the same variable with the other sign
abbrev pub opposite : Literal → Literal
opposite (positive v) = negative v
opposite (negative v) = positive v

-- the literal of another variable with the same sign
abbrev pub on_variable : ℕ → Literal → Literal
on_variable w (positive _) = positive w
on_variable w (negative _) = negative w

abbrev pub same_literal : Literal → Literal → Bool
same_literal (positive v) (positive w) = v == w
same_literal (positive _) (negative _) = false
same_literal (negative _) (positive _) = false
same_literal (negative v) (negative w) = v == w

-- DIMACS writes a literal as the variable's number or its negative
abbrev pub dimacs_literal : ℤ → Literal
dimacs_literal (pos v) = positive v
dimacs_literal (negsuc n) = negative (suc n)

abbrev pub dimacs_number : Literal → ℤ
dimacs_number (positive v) = pos v
dimacs_number (negative v) = neg_ℤ (pos v)

-- a literal is true where the bit of its variable fits its sign
abbrev pub literal_true : Assignment → Literal → Bool
literal_true m (positive v) = m v
literal_true m (negative v) = not (m v)

-- a clause is true where one of its literals is; the empty clause is false
abbrev pub clause_true : Assignment → List Literal → Bool
clause_true m clause = list_any (literal_true m) clause

-- the number of a literal, by which literals are ordered
abbrev pub literal_code : Literal → ℕ
literal_code (positive v) = 2 * v
literal_code (negative v) = 2 * v + 1
