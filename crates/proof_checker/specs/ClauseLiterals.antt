-- Words of private contracts: the literals of a matrix, each with the variable that tells that its
-- clause is false.
use Rattle.std.specs.Prelude.{◌≡◌, ◌≤◌, ℕ, ◌+◌, List, [], ◌∷◌, ◌++◌, map}
use Rattle.dq_lits.specs.Formula.{Dqbf}
use Rattle.dq_lits.specs.Literal.{Literal}
use Rattle.circuit_plain.specs.Netlist.{Netlist}
use Rattle.aiger_text.specs.Lines.{max_count}
use Rattle.cert_text.specs.NegatedMatrix.{all_falsity_clauses, some_clause_false}
use Rattle.skolem_checker.specs.Checks.{Candidate}
use Rattle.proof_checker.specs.CircuitProof.{circuit_literal}

-- the clauses' variables are the numbers from `bad` on
abbrev pub clause_literals : ℕ → List (List Literal) → List (ℕ × Literal)
clause_literals bad [] = []
clause_literals bad (clause ∷ clauses) =
    map (λ l. (bad, l)) clause ++ clause_literals (bad + 1) clauses

-- the clauses behind those of the gates
abbrev pub formula_clauses : Candidate → List (List ℕ)
formula_clauses c =
    all_falsity_clauses (circuit_literal c.circuit) (c.circuit.netlist.max_var + 1) c.formula.matrix
    ++ some_clause_false c.circuit.netlist c.formula.matrix ∷ []

-- what the negated matrix keeps of a formula and a circuit's netlist
pub record AreClauseLiterals (f : Dqbf) (net : Netlist)
    (literals : List (ℕ × Literal)) : Type 0 where
  pub few : net.max_var ≤ max_count
  pub are : literals ≡ clause_literals (net.max_var + 1) f.matrix
