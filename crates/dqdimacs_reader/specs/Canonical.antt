-- The canonical text of a formula (DQDIMACS).
use Rattle.std.specs.Prelude.{ℕ, ◌==◌, List, [], ◌∷◌, ◌++◌, length, codes, if◌then◌else◌}
use Rattle.std.specs.Fmt.{signed_decimal}
use Rattle.std.specs.List.{flat_map}
use Rattle.dq_lits.specs.Literal.{Literal, dimacs_number}
use Rattle.dq_lits.specs.Formula.{Existential, Dqbf}
use Rattle.dq_text.specs.Written.{number_text, number_line, line_end}

-- a literal as DIMACS writes it, and a space
abbrev pub literal_text : Literal → List ℕ
literal_text l = signed_decimal (dimacs_number l) ++ 32 ∷ []

-- a letter, numbers and `0`
abbrev pub numbers_line : ℕ → List ℕ → List ℕ
numbers_line letter numbers = letter ∷ 32 ∷ (flat_map number_text numbers ++ line_end)

abbrev pub header_text : Dqbf → List ℕ
header_text f = codes "p cnf " ++ (number_text f.variables ++ number_line (length f.matrix))

-- one line `a` with all universals, where there are any
abbrev pub universals_text : List ℕ → List ℕ
universals_text [] = []
universals_text (x ∷ xs) = numbers_line 97 (x ∷ xs)

-- `e y 0` where it sees every universal (a dependency set has each of its universals once), else `d
-- y x.. 0`
abbrev pub existential_line : ℕ → ℕ → List ℕ → List ℕ
existential_line universals y seen =
    if length seen == universals then numbers_line 101 (y ∷ []) else numbers_line 100 (y ∷ seen)

abbrev pub existential_text : List ℕ → Existential → List ℕ
existential_text universals y = existential_line (length universals) y.variable y.sees

abbrev pub clause_text : List Literal → List ℕ
clause_text literals = flat_map literal_text literals ++ line_end

-- the header, the universals, a line for each existential in order, a line for each clause
abbrev pub canonical : Dqbf → List ℕ
canonical f =
    header_text f ++ (universals_text f.universals
    ++ (flat_map (existential_text f.universals) f.existentials ++ flat_map clause_text f.matrix))
