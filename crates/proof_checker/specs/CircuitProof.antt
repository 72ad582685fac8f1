-- Whether a derivation shows that a circuit makes every clause of a formula true: it refutes that
-- the gates have their values and some clause is false.
use Rattle.std.specs.Prelude.{ℕ, ◌*◌, ◌==◌, false, List, slice_index, Option, if◌then◌else◌}
use Rattle.std.specs.List.{list_any, position_or_len}
use Rattle.dq_lits.specs.Derivation.{LiveClauses, ProofFault}
use Rattle.rup_core.specs.Items.{ProofItem, items_fault}
use Rattle.cert_text.specs.NegatedMatrix.{negated_matrix}
use Rattle.skolem_checker.specs.Checks.{Candidate}
use Rattle.skolem_checker.specs.SkolemCircuit.{MappedCircuit}

-- the literal for a variable of the formula: its input's, where an input stands for it, and else
-- its output's
abbrev pub circuit_literal : MappedCircuit → ℕ → ℕ
circuit_literal c v =
    if list_any (λ x. x == v) c.mapping.inputs
    then 2 * slice_index c.netlist.inputs (position_or_len (λ x. x == v) c.mapping.inputs)
    else slice_index c.netlist.outputs (position_or_len (λ y. y == v) c.mapping.outputs)

-- the gates have their values and some clause is false
abbrev pub negated_candidate : Candidate → LiveClauses
negated_candidate c = negated_matrix c.formula c.circuit.netlist (circuit_literal c.circuit)

-- the first line that isn't derived from these clauses and the lines before it that weren't deleted,
-- or that the last line isn't empty
abbrev pub circuit_proof_fault : Candidate → List ProofItem → Option ProofFault
circuit_proof_fault c items = items_fault false (negated_candidate c) items
