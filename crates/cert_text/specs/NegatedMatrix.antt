-- The negated matrix: clauses that hold where the circuit's gates have their values and some clause
-- of the formula is false (Tseitin encoding; G. Tseitin, "On the complexity of derivation in
-- propositional calculus", 1968). Literals are the circuit's, as in AIGER: 2v stands for variable v
-- and 2v + 1 for its negation, 0 is false and 1 is true.
use Rattle.std.specs.Prelude.{ℕ, zero, suc, ◌+◌, ◌-◌, ◌*◌, ◌==◌, not, List, [], ◌∷◌, ◌++◌, map, length, Option, None, Some, if◌then◌else◌, slice_get}
use Rattle.std.specs.List.{filter, flat_map, list_any, range_with_len, sum_by}
use Rattle.std.specs.Option.{option_and_then}
use Rattle.dq_lits.specs.Derivation.{LiveClauses}
use Rattle.dq_lits.specs.Formula.{Dqbf}
use Rattle.dq_lits.specs.Literal.{Literal, positive, negative}
use Rattle.circuit_plain.specs.Netlist.{Netlist, literal_variable, literal_negated}
use Rattle.circuit_plain.specs.declared.circuits.Gate.{Gate}

abbrev pub opposite_of : ℕ → ℕ
opposite_of l = if literal_negated l then l - 1 else l + 1

-- a gate's variable is true exactly where both right sides are
abbrev pub gate_clauses : Gate → List (List ℕ)
gate_clauses g =
    (opposite_of (2 * g.variable) ∷ g.left ∷ [])
    ∷ (opposite_of (2 * g.variable) ∷ g.right ∷ [])
    ∷ (2 * g.variable ∷ opposite_of g.left ∷ opposite_of g.right ∷ [])
    ∷ []

-- a literal of the formula as one of the circuit, where each variable has its literal there
abbrev pub literal_under : (ℕ → ℕ) → Literal → ℕ
literal_under circuit_literal (positive v) = circuit_literal v
literal_under circuit_literal (negative v) = opposite_of (circuit_literal v)

-- where the variable `bad` is true, each literal of the clause is false
abbrev pub falsity_clauses : (ℕ → ℕ) → ℕ → List Literal → List (List ℕ)
falsity_clauses circuit_literal bad clause =
    map (λ l. opposite_of (2 * bad) ∷ opposite_of (literal_under circuit_literal l) ∷ []) clause

-- the same for each clause, by the variables from `bad` on
abbrev pub all_falsity_clauses : (ℕ → ℕ) → ℕ → List (List Literal) → List (List ℕ)
all_falsity_clauses circuit_literal bad [] = []
all_falsity_clauses circuit_literal bad (clause ∷ clauses) =
    falsity_clauses circuit_literal bad clause
    ++ all_falsity_clauses circuit_literal (bad + 1) clauses

-- with M the circuit's largest variable, M + j stands for 'clause j is false', and one of them is
-- true
abbrev pub some_clause_false : Netlist → List (List Literal) → List ℕ
some_clause_false net matrix =
    map (λ bad. 2 * bad) (range_with_len (net.max_var + 1) (length matrix))

abbrev pub negated_clauses : Dqbf → Netlist → (ℕ → ℕ) → List (List ℕ)
negated_clauses f net circuit_literal =
    flat_map gate_clauses net.gates
    ++ (all_falsity_clauses circuit_literal (net.max_var + 1) f.matrix
    ++ some_clause_false net f.matrix ∷ [])

abbrev pub as_literal : ℕ → Literal
as_literal l =
    if literal_negated l then negative (literal_variable l) else positive (literal_variable l)

-- constants put in: a false literal is dropped, and a true one leaves no clause
abbrev pub without_constants : List ℕ → Option (List Literal)
without_constants clause =
    if list_any (λ l. l == 1) clause then None
    else Some (map as_literal (filter (λ l. not (l == 0)) clause))

-- the clauses have the ids from 1 on; a universal's circuit literal is its input's, and an
-- existential's is its output's
abbrev pub negated_matrix : Dqbf → Netlist → (ℕ → ℕ) → LiveClauses
negated_matrix f net circuit_literal zero = None
negated_matrix f net circuit_literal (suc i) =
    option_and_then without_constants (slice_get (negated_clauses f net circuit_literal) i)

-- how many ids these clauses have
abbrev pub negated_clause_count : Dqbf → Netlist → ℕ
negated_clause_count f net = 3 * length net.gates + sum_by length f.matrix + 1
