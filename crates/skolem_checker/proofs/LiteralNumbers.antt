-- Lemmas on literals by their numbers.
use Rattle.std.proofs.Common.{ℕ, List, inl, inr, sym, subst}
use Rattle.std.specs.List.{Contains}
use Rattle.std.proofs.lemmas.List.Elements.{All-contains, All-map}
use Rattle.aiger_text.specs.Grammar.{SpellsCircuit, HasMeaning}
use Rattle.aiger_text.specs.declared.files.AagFile.{AagFile}
use Rattle.aiger_text.specs.Scan.{AllGrounded}
use Rattle.circuit_plain.specs.Ground.{IsGrounded, constant, input}
use Rattle.circuit_plain.specs.Netlist.{Netlist, literal_variable, gate_variables, variable_of_gate}
use Rattle.skolem_checker.specs.SkolemCircuit.{IsComplete}

pub gate_grounded : (net : Netlist) (v : ℕ) → AllGrounded net → Contains (gate_variables net) v → IsGrounded net v
gate_grounded net v grounded is_gate =
    All-contains (IsGrounded net) (gate_variables net) v (All-map
    (IsGrounded net) variable_of_gate net.gates grounded) is_gate

pub meaning_grounded : (net : Netlist) (l : ℕ) → AllGrounded net → HasMeaning net l →
    IsGrounded net (literal_variable l)
meaning_grounded net l grounded (inl is_constant) = subst (IsGrounded net) (sym is_constant) constant
meaning_grounded net l grounded (inr (inl is_input)) = input is_input
meaning_grounded net l grounded (inr (inr is_gate)) = gate_grounded net (literal_variable l) grounded is_gate

pub spelled_complete : (text : List ℕ) (file : AagFile) → SpellsCircuit text file → IsComplete file.circuit
spelled_complete text file h = record {
  gates = h.acyclic;
  outputs = λ k d below. meaning_grounded file.circuit _ h.acyclic (h.outputs_mean k d below);
}
