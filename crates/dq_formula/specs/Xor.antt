-- XOR lines: an odd number of literals is true (as the `x` lines of CryptoMiniSat's DIMACS), and the
-- clauses that say so.
use Rattle.std.specs.Prelude.{◌≡◌, ℕ, Bool, true, false, not, List, [], ◌∷◌, ◌++◌, map, reverse, take}
use Rattle.std.specs.List.{list_all}
use Rattle.dq_lits.specs.Literal.{Assignment, Literal, opposite, literal_true, clause_true}

abbrev pub differ : Bool → Bool → Bool
differ true b = not b
differ false b = b

-- an odd number of the literals is true
abbrev pub xor_true : Assignment → List Literal → Bool
xor_true m [] = false
xor_true m (l ∷ literals) = differ (literal_true m l) (xor_true m literals)

-- The clauses over these literals, of which the last one comes first, in which an even number of
-- them is negated, or an odd one. Whether the last literal is negated counts most in their order.
abbrev pub parity_clauses : Bool → List Literal → List (List Literal)
parity_clauses true [] = [] ∷ []
parity_clauses false [] = []
parity_clauses even (l ∷ before) =
    map (λ clause. clause ++ l ∷ []) (parity_clauses even before)
    ++ map (λ clause. clause ++ opposite l ∷ []) (parity_clauses (not even) before)

-- An XOR line's clauses: for each choice of an even number of its literals one clause, in which
-- these are negated. They stand in order of the numbers whose bit i tells whether literal i is.
abbrev pub xor_clauses : List Literal → List (List Literal)
xor_clauses literals = parity_clauses true (reverse literals)

-- those over the first so many literals
abbrev pub first_parity_clauses : Bool → List Literal → ℕ → List (List Literal)
first_parity_clauses even literals n = parity_clauses even (reverse (take n literals))

abbrev pub all_true : Assignment → List (List Literal) → Bool
all_true m clauses = list_all (clause_true m) clauses

-- the clauses of an XOR line are all true exactly where the line is
abbrev pub XorIsItsClauses : Type 0
XorIsItsClauses = (m : Assignment) (literals : List Literal)
    → all_true m (xor_clauses literals) ≡ xor_true m literals
