-- What the parts of a netlist say of one another.
use Rattle.std.proofs.Common.{◌≡◌, ◌≢◌, ℕ, ◌<◌, inl, inr, List, length, get_or, sym, ap, ◌∙◌, subst}
use Rattle.std.proofs.lemmas.List.Quantifiers.{all_pairs_push}
use Rattle.std.proofs.lemmas.List.Folds.{Any-from_list_any, list_any_at}
use Rattle.std.specs.List.{list_any}
use Rattle.std.specs.Prelude.{◌==◌, ◌↔◌, true, [], ◌∷◌, ◌++◌, All, AllPairs, Contains}
use Rattle.std.proofs.lemmas.Bool.{cases_order, eq-eqb, eqb-true}
use Rattle.std.proofs.lemmas.List.{get_or_default, get_or-map, length-map}
use Rattle.std.proofs.lemmas.List.Elements.{All-contains, All-push, Contains-get_or}
use Rattle.circuit_plain.specs.declared.circuits.Gate.{Gate}
use Rattle.circuit_plain.specs.Netlist.{Netlist, IsNetlist, IsDefined, IsGate, IsVariable, IsLiteral, variable_of_gate, gate_variables, gate_at}

-- in a list whose elements differ by a key, one key names one element
pub same_by_key : {X : Type 0} (key : X → ℕ) (xs : List X) (x y : X) → AllPairs (λ a b. key a ≢ key b) xs
    → Contains xs x → Contains xs y → key x ≡ key y → x ≡ y
same_by_key key xs x y once (i, i_in, x_is) (j, j_in, y_is) e =
    elim (cases_order i j) [
      | inl same ↦
          let moved : get_or xs j x ≡ x = rw same at x_is in
          let other : get_or xs j x ≡ get_or xs j y = get_or_default xs j x y j_in in
          cc
      | inr (inl below) ↦
          let other : get_or xs j x ≡ get_or xs j y = get_or_default xs j x y j_in in
          let keys : key (get_or xs i x) ≡ key (get_or xs j x) = cc in
          absurd (once i j x below j_in keys)
      | inr (inr above) ↦
          let other : get_or xs j x ≡ get_or xs j y = get_or_default xs j x y j_in in
          let keys : key (get_or xs j x) ≡ key (get_or xs i x) = cc in
          absurd (once j i x above i_in keys)
    ]

-- of two places of a list without repetition that hold one element, neither is the earlier one
pub same_place : {X : Type 0} (key : X → ℕ) (xs : List X) (i j : ℕ) (d : X) → AllPairs (λ a b. key a ≢ key b) xs
    → i < length xs → j < length xs → key (get_or xs i d) ≡ key (get_or xs j d) → i ≡ j
same_place key xs i j d once i_in j_in e =
    elim (cases_order i j) [
      | inl same ↦ same
      | inr (inl below) ↦ absurd (once i j d below j_in e)
      | inr (inr above) ↦ absurd (once j i d above i_in (sym e))
    ]

module _ (net : Netlist) (kept : IsNetlist net) where
  pub same_gate : (g h : Gate) → Contains net.gates g → Contains net.gates h → g.variable ≡ h.variable → g ≡ h
  same_gate g h g_in h_in e = same_by_key variable_of_gate net.gates g h kept.gates_once g_in h_in e

  pub input_fits : (v : ℕ) → Contains net.inputs v → IsVariable net.max_var v
  input_fits v v_in = All-contains (IsVariable net.max_var) net.inputs v kept.inputs_fit v_in

  pub gate_fits : (g : Gate) → Contains net.gates g → IsGate net.max_var g
  gate_fits g g_in = All-contains (IsGate net.max_var) net.gates g kept.gates_fit g_in

  -- no input is a gate
  pub input_apart : (v : ℕ) (g : Gate) → Contains net.inputs v → Contains net.gates g → v ≡ g.variable → ⊥
  input_apart v g v_in g_in e =
      All-contains (λ h. v ≢ h.variable) net.gates g (All-contains
      (λ x. All (λ h. x ≢ h.variable) net.gates) net.inputs v kept.apart v_in) g_in e

-- a gate's variable is defined, and a defined variable of the gates is some gate's
pub gate_defined : (net : Netlist) (i : ℕ) (d : Gate) → i < length net.gates →
    Contains (gate_variables net) (get_or net.gates i d).variable
gate_defined net i d i_in =
    (i, rw length-map i_in, get_or-map variable_of_gate net.gates i d _ i_in)

-- the adding calls keep the shape
pub keeps_input : (net : Netlist) (v : ℕ) → IsNetlist net → IsVariable net.max_var v → ¬ IsDefined net v
    → IsNetlist (record net { inputs = net.inputs ++ v ∷ [] })
keeps_input net v kept fits fresh = record {
  numbered = kept.numbered;
  inputs_fit = All-push (IsVariable net.max_var) net.inputs v kept.inputs_fit fits;
  outputs_fit = kept.outputs_fit;
  gates_fit = kept.gates_fit;
  inputs_once = all_pairs_push (λ x y. x ≢ y) net.inputs v kept.inputs_once
      (λ k d k_in e. fresh (inl (k, k_in, get_or_default net.inputs k v d k_in ∙ e)));
  gates_once = kept.gates_once;
  apart = All-push (λ x. All (λ g. x ≢ g.variable) net.gates) net.inputs v kept.apart
      (λ k d k_in e. fresh (inr (subst (λ (x : ℕ). Contains (gate_variables net) x) (sym e)
      (gate_defined net k d k_in))));
}

pub keeps_output : (net : Netlist) (l : ℕ) → IsNetlist net → IsLiteral net.max_var l
    → IsNetlist (record net { outputs = net.outputs ++ l ∷ [] })
keeps_output net l kept fits = record {
  numbered = kept.numbered;
  inputs_fit = kept.inputs_fit;
  outputs_fit = All-push (IsLiteral net.max_var) net.outputs l kept.outputs_fit fits;
  gates_fit = kept.gates_fit;
  inputs_once = kept.inputs_once;
  gates_once = kept.gates_once;
  apart = kept.apart;
}

pub keeps_gate : (net : Netlist) (g : Gate) → IsNetlist net → IsGate net.max_var g → ¬ IsDefined net g.variable
    → IsNetlist (record net { gates = net.gates ++ g ∷ [] })
keeps_gate net g kept fits fresh = record {
  numbered = kept.numbered;
  inputs_fit = kept.inputs_fit;
  outputs_fit = kept.outputs_fit;
  gates_fit = All-push (IsGate net.max_var) net.gates g kept.gates_fit fits;
  inputs_once = kept.inputs_once;
  gates_once = all_pairs_push (λ a b. a.variable ≢ b.variable) net.gates g kept.gates_once
      (λ k d k_in e. fresh (inr (subst (λ (x : ℕ). Contains (gate_variables net) x) e (gate_defined net k d k_in))));
  apart = λ k d k_in. All-push (λ h. get_or net.inputs k d ≢ h.variable) net.gates g (kept.apart k d k_in)
      (λ e. fresh (inl (subst (λ (x : ℕ). Contains net.inputs x) e (Contains-get_or net.inputs k d k_in))));
}

pub gate_at_member : (net : Netlist) (p : ℕ) → p < length net.gates → Contains net.gates (gate_at net p)
gate_at_member net p p_in = Contains-get_or net.gates p _ p_in

-- a look through the inputs and the gates
pub found_among : (v : ℕ) (xs : List ℕ) → (list_any (λ x. x == v) xs ≡ true) ↔ Contains xs v
found_among v xs = (
  λ on.
      let (k, x, k_in, is, same) = Any-from_list_any (λ y. y == v) xs on in
      (k, k_in, get_or_default xs k v x k_in ∙ (is ∙ eqb-true x v same)),
  λ (k, k_in, is). list_any_at (λ x. x == v) xs k v k_in (eq-eqb _ _ is),
)

pub found_gate : (net : Netlist) (v : ℕ) (gates : List Gate) → net.gates ≡ gates
    → (list_any (λ g. g.variable == v) gates ≡ true) ↔ Contains (gate_variables net) v
found_gate net v gates same = (
  λ on.
      let (k, g, k_in, is, e) = Any-from_list_any (λ h. h.variable == v) gates on in
      let k_below : k < length net.gates = rw same k_in in
      let here : get_or net.gates k g ≡ g = rw same is in (
        k,
        rw length-map k_below,
        get_or-map variable_of_gate net.gates k g v k_below ∙
            (ap variable_of_gate here ∙ eqb-true g.variable v e),
      ),
  λ (k, k_in, is).
      let k_below : k < length net.gates = rw length-map at k_in in
      let none : Gate = record { variable = 0; left = 0; right = 0 } in
      let here : (get_or gates k none).variable ≡ v =
      ap (λ (gs : List Gate). (get_or gs k none).variable) (sym same)
      ∙ (sym (get_or-map variable_of_gate net.gates k none v k_below) ∙ is) in
      list_any_at (λ g. g.variable == v) gates k none (rw same at k_below) (eq-eqb _ _ here),
)
