-- How the parts of a text make up a formula.
use Rattle.std.specs.Prelude.{ℕ, List, [], ◌∷◌, ◌++◌, map, if◌then◌else◌}
use Rattle.std.specs.List.{list_any, fold}
use Rattle.dq_lits.specs.Literal.{Literal, same_literal}
use Rattle.dq_lits.specs.Formula.{Dqbf}
use Rattle.dq_formula.specs.Dependencies.{listed_universals}
use Rattle.dq_formula.specs.Prefix.{free_variables, unseeing}
use Rattle.dq_formula.specs.Xor.{xor_clauses}

-- no declarations and no clauses yet
abbrev pub empty_formula : ℕ → Dqbf
empty_formula variables =
    record { variables = variables; universals = []; existentials = []; matrix = [] }

abbrev pub add_universal : Dqbf → ℕ → Dqbf
add_universal f v = record f { universals = f.universals ++ v ∷ [] }

abbrev pub add_existential : Dqbf → ℕ → List ℕ → Dqbf
add_existential f y sees =
    record f { existentials = f.existentials ++ record { variable = y; sees = sees } ∷ [] }

-- an `e` variable sees the universals declared before it
abbrev pub add_first : Dqbf → ℕ → Dqbf
add_first f y = add_existential f y f.universals

-- a `d` variable sees exactly these universals; they are kept in order of declaration
abbrev pub add_listed : Dqbf → ℕ → List ℕ → Dqbf
add_listed f y xs = add_existential f y (listed_universals f.universals xs)

abbrev pub add_clause : Dqbf → List Literal → Dqbf
add_clause f clause = record f { matrix = f.matrix ++ clause ∷ [] }

-- an XOR line stands in the matrix as its clauses
abbrev pub add_xor : Dqbf → List Literal → Dqbf
add_xor f literals = record f { matrix = f.matrix ++ xor_clauses literals }

-- a literal that a clause has already isn't added again
abbrev pub add_literal : List Literal → Literal → List Literal
add_literal clause l = if list_any (same_literal l) clause then clause else clause ++ l ∷ []

-- distinct literals, in order of first occurrence
abbrev pub distinct : List Literal → List Literal
distinct literals = fold add_literal [] literals

-- the undeclared variables of clauses, ascending, are existentials that see nothing
abbrev pub with_free : Dqbf → Dqbf
with_free f = record f { existentials = f.existentials ++ map unseeing (free_variables f) }
