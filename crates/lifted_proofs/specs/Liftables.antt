-- Words of private contracts: what a circuit's proof is lifted from and to.
use Rattle.std.specs.Prelude.{◌≡◌, ℕ, ◌+◌, ◌-◌, ◌*◌, List, [], ◌∷◌, ◌++◌, length, map, take, Some}
use Rattle.std.specs.List.{slice_get, sum_by}
use Rattle.dq_lits.specs.Literal.{Literal, positive, negative, variable_of, on_variable}
use Rattle.dq_lits.specs.Formula.{Dqbf, IsWellFormed}
use Rattle.dq_lits.specs.Derivation.{LiveClauses, ProofStep}
use Rattle.circuit_plain.specs.Netlist.{IsNetlist}
use Rattle.cert_text.specs.CircuitProof.{first_proof_id, is_proof_variable}
use Rattle.cert_text.specs.NegatedMatrix.{all_falsity_clauses, as_literal, literal_under, opposite_of}
use Rattle.dq_prep.specs.declared.traces.Taken.{Taken}
use Rattle.dq_prep.specs.Units.{AreUnits, taken_literals}
use Rattle.dq_prep.specs.Simplified.{simplified_formula}
use Rattle.skolem_checker.specs.Checks.{Candidate}
use Rattle.skolem_checker.specs.Tables.{IsMapping}
use Rattle.proof_checker.specs.CircuitProof.{negated_candidate, circuit_literal}
use Rattle.lifted_proofs.specs.CarriedProofs.{Carrying, carried_variable}
use Rattle.lifted_proofs.specs.KeptPlaces.{kept_places}
use Rattle.lifted_proofs.specs.NamedIds.{AreNamed}
use Rattle.lifted_proofs.specs.SettledCircuits.{settled_candidate}

-- a circuit for what is left of a formula where these units were taken
pub record IsLiftable (f : Dqbf) (units : List Taken) (c : Candidate) : Type 0 where
  pub well : IsWellFormed f
  pub units_are : AreUnits f units
  pub left : c.formula ≡ simplified_formula f units
  pub mapped : IsMapping f c.circuit.netlist c.circuit.mapping
  pub lawful : IsNetlist c.circuit.netlist

-- the clauses that lifted lines are derived from
abbrev pub lifted_base : Dqbf → List Taken → Candidate → LiveClauses
lifted_base f units c = negated_candidate (settled_candidate f (taken_literals units) c)

-- what a literal of the proof becomes
abbrev pub lifted_literal : Dqbf → List Taken → Candidate → Literal → Literal
lifted_literal f units c l =
    on_variable
    (carried_variable c.circuit.netlist.max_var (length f.matrix) (kept_places f units)
    (variable_of l))
    l

-- where a clause, by its variable, is false, so is its literal
abbrev pub falsity : (ℕ → ℕ) → ℕ → Literal → List ℕ
falsity lit bad l = opposite_of (2 * bad) ∷ opposite_of (literal_under lit l) ∷ []

-- the clauses that literals of the first kept clauses are false
abbrev pub left_falsities : Candidate → List (List Literal) → List (List ℕ)
left_falsities c clauses =
    all_falsity_clauses (circuit_literal c.circuit) (c.circuit.netlist.max_var + 1) clauses

abbrev pub AreLiftedNames : Dqbf → List Taken → Candidate → List (List ℕ) → List ℕ
    → List ProofStep → Type 0
AreLiftedNames f units c falsities ids steps =
    AreNamed (is_proof_variable f c.circuit.netlist) (first_proof_id f c.circuit.netlist)
    (lifted_literal f units c) (lifted_base f units c) falsities ids steps

-- the clause at a place is false, where clauses have the variables from a first one on
abbrev pub is_false : ℕ → ℕ → Literal
is_false first place = positive (first + place)

-- the line that some clause which is kept is false
abbrev pub some_false_line : Dqbf → List Taken → Candidate → List ℕ → List ProofStep → ProofStep
some_false_line f units c hints steps = record {
  id = first_proof_id f c.circuit.netlist + length steps;
  literals = map (is_false (c.circuit.netlist.max_var + 1)) (kept_places f units);
  hints = hints ++ (first_proof_id f c.circuit.netlist - 1) ∷ [];
}

-- what ids and variables become
abbrev pub carrying_of : Dqbf → List Taken → Candidate → List ℕ → List ProofStep → Carrying
carrying_of f units c ids steps = record {
  gates = 3 * length c.circuit.netlist.gates;
  largest = c.circuit.netlist.max_var;
  places = kept_places f units;
  clauses = length f.matrix;
  ids = ids;
  some_false = first_proof_id f c.circuit.netlist + length steps;
}

-- the line that a clause isn't false where this literal of it, which isn't constant, isn't; by a
-- clause that it isn't false
abbrev pub weaker_line : Dqbf → Candidate → ℕ → ℕ → ℕ → List ProofStep → ProofStep
weaker_line f c place was hint steps = record {
  id = first_proof_id f c.circuit.netlist + length steps;
  literals = negative (c.circuit.netlist.max_var + 1 + place) ∷ as_literal (opposite_of was) ∷ [];
  hints = hint ∷ [];
}

-- the id of the clause that a literal of the clause at a place is false
pub record IsLiteralId (f : Dqbf) (c : Candidate) (p : ℕ) (l : Literal) (id : ℕ) : Type 0 where
  pub clause : List Literal
  pub clause_at : slice_get f.matrix p ≡ Some clause
  pub place : ℕ
  pub at : slice_get clause place ≡ Some l
  pub is : id ≡ 3 * length c.circuit.netlist.gates + (sum_by length (take p f.matrix) + place) + 1
