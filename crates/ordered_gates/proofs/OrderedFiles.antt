-- Files with ordered gates: what texts can hold them, and their proofs.
use Rattle.std.proofs.Common.{◌≡◌, ◌==◌, nat_lt, ◌+◌, ◌∙◌, ℕ, true, false, inl, inr, List, [], ◌∷◌, map, length, refl, sym, subst, arith}
use Rattle.std.specs.List.{Contains, range_with_len}
use Rattle.std.proofs.lemmas.Bool.{and_parts, eqb-true, ltb-true, ltb-false}
use Rattle.std.proofs.lemmas.List.{length-map}
use Rattle.std.proofs.lemmas.List.Elements.{All-map, All-weaker}
use Rattle.dq_lits.specs.Formula.{Dqbf}
use Rattle.circuit_plain.specs.Netlist.{Netlist, literal_variable, variable_of_gate}
use Rattle.circuit_plain.specs.declared.circuits.Gate.{Gate}
use Rattle.aiger_text.specs.Grammar.{HasMeaning}
use Rattle.aiger_text.specs.Spellable.{IsSpellable}
use Rattle.aiger_text.specs.declared.files.AagFile.{AagFile}
use Rattle.aig_binary.specs.Written.{IsGateInOrder, AreInOrder, IsBinaryFile}
use Rattle.cert_text.specs.CircuitProof.{is_proof_variable, first_proof_id}
use Rattle.cert_text.specs.Numbering.{numbered_from}
use Rattle.cert_text.specs.ProofGrammar.{IsDqpOf}
use Rattle.cert_text.specs.declared.circuit_proofs.Dqp.{Dqp}
use Rattle.proof_checker.specs.ProvedCircuit.{IsProvedCircuit}
use Rattle.ordered_gates.specs.Circuits.{is_sorted_gate, are_from, are_sorted, is_sorted, ordered_gate, ordered_netlist, ordered_file, ordered_proof}
use Rattle.ordered_gates.proofs.OrderedItems.{begin_behind, items_behind}
use Rattle.ordered_gates.proofs.OrderedNetlists.{ordered_variable, ordered_by, ordered_is_netlist, all_grounded, ordered_complete, ordered_skolem}
use Rattle.ordered_gates.proofs.TurnedFaults.{negated_alike, items_same}

pub proved : (f : Dqbf) (file : AagFile) (proof : Dqp) → IsProvedCircuit f file proof → IsDqpOf f file.circuit proof →
    IsProvedCircuit f (ordered_file file) (ordered_proof file.circuit proof)
proved f file proof is allowed = record {
  netlist = ordered_is_netlist file.circuit is.netlist;
  complete = ordered_complete file.circuit is.complete;
  skolem = ordered_skolem f file is.skolem;
  derives = items_same file.circuit.gates false _ _ proof.items
      (items_behind file.circuit.gates (is_proof_variable f file.circuit)
      (numbered_from (first_proof_id f file.circuit)) proof.items (begin_behind f file.circuit) allowed.items)
      (negated_alike f file.circuit _)
      ∙ is.derives;
}

-- ---- texts

variables_same : (gates : List Gate) →
    map variable_of_gate (map ordered_gate gates) ≡ map variable_of_gate gates
variables_same [] = refl
variables_same (g ∷ gates) = search (arith, ordered_variable, (variables_same gates))

-- a literal has a meaning by the variables that are defined, and these stay
pub spellable : (file : AagFile) → IsSpellable file → IsSpellable (ordered_file file)
spellable file is = record {
  enough = (omega (arith, length-map file.circuit.gates ordered_gate, is.enough));
  few_variables = is.few_variables;
  few_outputs = is.few_outputs;
  lawful = ordered_is_netlist file.circuit is.lawful;
  outputs_mean = All-weaker (HasMeaning file.circuit) (HasMeaning (ordered_netlist file.circuit))
      (means file.circuit) file.circuit.outputs is.outputs_mean;
  gates_mean = All-map (λ g. HasMeaning (ordered_netlist file.circuit) g.left
      × HasMeaning (ordered_netlist file.circuit) g.right) ordered_gate file.circuit.gates
      (All-weaker (λ g. HasMeaning file.circuit g.left × HasMeaning file.circuit g.right)
      (λ g. HasMeaning (ordered_netlist file.circuit) (ordered_gate g).left
      × HasMeaning (ordered_netlist file.circuit) (ordered_gate g).right)
      (λ g both. ordered_by (λ h. HasMeaning (ordered_netlist file.circuit) h.left
      × HasMeaning (ordered_netlist file.circuit) h.right) (λ h sides. (sides.1, sides.0)) g
      (means file.circuit g.left both.0, means file.circuit g.right both.1))
      file.circuit.gates is.gates_mean);
  acyclic = all_grounded file.circuit is.acyclic;
  input_names = is.input_names;
  output_names = is.output_names;
  inputs_named = is.inputs_named;
  outputs_named = is.outputs_named;
}
  where
    means : (net : Netlist) (l : ℕ) → HasMeaning net l → HasMeaning (ordered_netlist net) l
    means net l (inl constant) = inl constant
    means net l (inr (inl input)) = inr (inl input)
    means net l (inr (inr gate)) =
        inr (inr (subst (λ vs. Contains vs (literal_variable l)) (sym (variables_same net.gates)) gate))

gate_in_order : (v : ℕ) (g : Gate) → is_sorted_gate v g ≡ true → IsGateInOrder v (ordered_gate g)
gate_in_order v g sorted = search (arith, eqb-true, and_parts, nat_lt, ltb-true, ltb-false)

in_order : (v : ℕ) (gates : List Gate) → are_sorted v gates ≡ true → AreInOrder v (map ordered_gate gates)
in_order v [] sorted = tt
in_order v (g ∷ gates) sorted =
    let both = and_parts (is_sorted_gate v g) (are_sorted (v + 1) gates) sorted in
    (gate_in_order v g both.0, in_order (v + 1) gates both.1)

numbers_from : (n : ℕ) (vs : List ℕ) → are_from n vs ≡ true → vs ≡ range_with_len n (length vs)
numbers_from n [] are = refl
numbers_from n (v ∷ vs) are = search (arith, and_parts, eqb-true, (numbers_from (n + 1) vs))

pub sorted_in_order : (net : Netlist) → is_sorted net ≡ true →
    AreInOrder (length net.inputs + 1) (ordered_netlist net).gates
sorted_in_order net sorted =
    let all = and_parts (net.max_var == length net.inputs + length net.gates) _ sorted in
    in_order (length net.inputs + 1) net.gates
    (and_parts (are_from 1 net.inputs) (are_sorted (length net.inputs + 1) net.gates) all.1).1

pub binary : (file : AagFile) → IsSpellable file → is_sorted file.circuit ≡ true → IsBinaryFile (ordered_file file)
binary file is sorted =
    let net = file.circuit in
    let all = and_parts (net.max_var == length net.inputs + length net.gates) _ sorted in
    let parts = and_parts (are_from 1 net.inputs) (are_sorted (length net.inputs + 1) net.gates) all.1 in
    record {
      spellable = spellable file is;
      inputs = numbers_from 1 net.inputs parts.0;
      all_defined = omega (arith, length-map net.gates ordered_gate, eqb-true net.max_var (length net.inputs + length net.gates) all.0);
      gates = in_order (length net.inputs + 1) net.gates parts.1;
    }
