-- What the binary form spells is a netlist that can be evaluated: gates read earlier variables alone.
use Rattle.std.proofs.Common.{◌≡◌, ℕ, zero, suc, ◌+◌, ◌-◌, ◌*◌, ◌<◌, ◌≤◌, ◌⊎◌, inl, inr, get_or, List, [], ◌∷◌, length, All, Contains, refl, ◌∙◌, ap, arith, subst, one-add}
use Rattle.std.proofs.lemmas.Bool.{cases_order}
use Rattle.std.proofs.lemmas.List.FromFn.{get_or-range_with_len}
use Rattle.std.proofs.lemmas.List.Elements.{Contains-get_or}
use Rattle.circuit_plain.specs.Ground.{IsGrounded, constant, input, gate}
use Rattle.circuit_plain.specs.Netlist.{Netlist, IsNetlist, IsLiteral, literal_variable, left_variable, right_variable, gate_variables}
use Rattle.circuit_plain.specs.declared.circuits.Gate.{Gate}
use Rattle.circuit_plain.proofs.NetlistLaws.{gate_defined}
use Rattle.aiger_text.specs.Grammar.{HasMeaning}
use Rattle.aiger_text.specs.Scan.{AllGrounded}
use Rattle.aiger_text.specs.declared.files.ReadCircuit.{ReadCircuit}
use Rattle.aig_binary.specs.Gates.{SpellsGates}
use Rattle.aig_binary.specs.Grammar.{SpellsBinary}
use Rattle.aig_binary.specs.Scan.{first_variables}

pub variables_at : (n k d : ℕ) → k < n → get_or (first_variables n) k d ≡ suc k
variables_at n k d below = get_or-range_with_len 1 n k d below ∙ one-add k

-- the gate of a variable, over earlier ones
record IsGateAt (v : ℕ) (g : Gate) : Type 0 where
  variable : g.variable ≡ v
  left : g.left < 2 * v
  right : g.right ≤ g.left

gates_at : (gs : List Gate) (v : ℕ) (code : List ℕ) → SpellsGates v code gs → (k : ℕ) (d : Gate) → k < length gs →
    IsGateAt (v + k) (get_or gs k d)
gates_at [] v code spelled k d below = absurd (omega arith)
gates_at (g ∷ gs) v code (own, others, parts, spelled, more) zero d below = search arith
gates_at (g ∷ gs) v code (own, others, parts, spelled, more) (suc k) d below =
    search (arith, (gates_at gs (v + 1) others more k d))

module _ (text : List ℕ) (first : ℕ) (read : ReadCircuit) (s : SpellsBinary text first read) where
  abbrev net : Netlist
  net = read.file.circuit

  input_at : (k d : ℕ) → k < length net.inputs → get_or net.inputs k d ≡ suc k
  input_at k d below = ap (λ xs. get_or xs k d) s.inputs ∙ variables_at (length net.inputs) k d below

  gate_is : (k : ℕ) (d : Gate) → k < length net.gates → IsGateAt (length net.inputs + 1 + k) (get_or net.gates k d)
  gate_is = gates_at net.gates (length net.inputs + 1) s.code s.gates

  pub is_netlist : IsNetlist net
  is_netlist = search (arith, input_at, gate_is)

  abbrev no_gate : Gate
  no_gate = record { variable = 0; left = 0; right = 0 }

  -- the gate of a variable behind the inputs
  record IsGateOf (k : ℕ) : Type 0 where
    place : ℕ
    inside : place < length net.gates
    is : IsGateAt (suc k) (get_or net.gates place no_gate)

  gate_of : (k : ℕ) → length net.inputs ≤ k → suc k ≤ net.max_var → IsGateOf k
  gate_of k behind within =
      let all = s.all_defined in
      let place = k - length net.inputs in
      let inside : place < length net.gates = omega arith in
      let number : length net.inputs + 1 + place ≡ suc k = omega arith in
      record {
        place = place;
        inside = inside;
        is = subst (λ w. IsGateAt w (get_or net.gates place no_gate)) number (gate_is place no_gate inside);
      }

  grounded_gate : (n k : ℕ) → ((w : ℕ) → w < n → w ≤ net.max_var → IsGrounded net w) → k < n →
      suc k ≤ net.max_var → length net.inputs ≤ k → IsGrounded net (suc k)
  grounded_gate n k earlier below within behind =
      let o = gate_of k behind within in
      let g = get_or net.gates o.place no_gate in
      let less = o.is.left in
      let not_more = o.is.right in
      subst (IsGrounded net) o.is.variable (gate g (Contains-get_or net.gates o.place no_gate o.inside)
      (earlier (left_variable g) (omega arith) (omega arith)) (earlier (right_variable g) (omega arith) (omega arith)))

  -- the variables below a bound
  grounded_below : (n w : ℕ) → w < n → w ≤ net.max_var → IsGrounded net w
  grounded_below zero w below within = absurd (omega arith)
  grounded_below (suc n) zero below within = constant
  grounded_below (suc n) (suc k) below within =
      elim (cases_order k (length net.inputs)) [
        | inl same ↦ grounded_gate n k (grounded_below n) (omega arith) within (omega arith)
        | inr (inl an_input) ↦ input (k, an_input, input_at k (suc k) an_input)
        | inr (inr a_gate) ↦ grounded_gate n k (grounded_below n) (omega arith) within (omega arith)
      ]

  pub grounded : (w : ℕ) → w ≤ net.max_var → IsGrounded net w
  grounded w within = grounded_below (suc w) w (omega arith) within

  pub all_grounded : AllGrounded net
  all_grounded = λ k d below.
      let g = gate_is k d below in
      let all = s.all_defined in
      grounded (get_or net.gates k d).variable (omega (arith, g.variable))

  gate_defines : (k : ℕ) → length net.inputs ≤ k → suc k ≤ net.max_var → Contains (gate_variables net) (suc k)
  gate_defines k behind within =
      let o = gate_of k behind within in
      subst (Contains (gate_variables net)) o.is.variable (gate_defined net o.place no_gate o.inside)

  defined_or_zero : (w : ℕ) → w ≤ net.max_var → (w ≡ 0) ⊎ (Contains net.inputs w ⊎ Contains (gate_variables net) w)
  defined_or_zero zero within = inl refl
  defined_or_zero (suc k) within = search (arith, (cases_order k), (gate_defines k), (input_at k (suc k)))

  has_meaning : (l : ℕ) → IsLiteral net.max_var l → HasMeaning net l
  has_meaning l range = defined_or_zero (literal_variable l) (omega arith)

  pub outputs_mean : All (HasMeaning net) net.outputs
  outputs_mean = λ k d below. has_meaning (get_or net.outputs k d) (s.in_range k d below)
