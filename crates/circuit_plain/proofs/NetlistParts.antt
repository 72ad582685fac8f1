-- Lemmas on a netlist's parts at their places.
use Rattle.std.proofs.Common.{◌≡◌, ◌≢◌, ◌∙◌, ◌*◌, ◌+◌, ◌<◌, ℕ, inl, inr, take, length, length-take, get_or, get_or-take, sym, ap, subst, arith, [], ◌∷◌, ◌++◌, ◌/◌}
use Rattle.std.specs.List.{All}
use Rattle.std.proofs.lemmas.List.{get_or-map, length-map, take_more}
use Rattle.std.proofs.lemmas.List.Elements.{All-contains}
use Rattle.circuit_plain.specs.Netlist.{Netlist, IsNetlist, IsVariable, IsDefined, IsGate, variable_of_gate, IsLiteral}
use Rattle.circuit_plain.specs.declared.circuits.Gate.{Gate}

abbrev pub with_inputs : Netlist → ℕ → Netlist
with_inputs net place = record net { inputs = take place net.inputs; outputs = []; gates = [] }

pub input_added : (net : Netlist) (place v : ℕ) (old new : Netlist) → place < length net.inputs →
    get_or net.inputs place v ≡ v → old ≡ with_inputs net place →
    new ≡ record old { inputs = old.inputs ++ v ∷ [] } → new ≡ with_inputs net (place + 1)
input_added net place v old new below is old_is new_is =
    new_is ∙ ap (λ (o : Netlist). record o { inputs = o.inputs ++ v ∷ [] }) old_is
    ∙ ap (λ xs. record net { inputs = xs; outputs = []; gates = [] })
    (ap (λ w. take place net.inputs ++ w ∷ []) (sym is) ∙ sym (take_more net.inputs place v below))

pub input_new : (net : Netlist) → IsNetlist net → (place v : ℕ) → place < length net.inputs →
    get_or net.inputs place v ≡ v → IsDefined (with_inputs net place) v → ⊥
input_new net lawful place v below is (inl (k, low, at)) =
    let long = length-take place net.inputs in
    let before : k < place = omega (arith, low, long) in
    lawful.inputs_once k place v before below (sym (get_or-take place net.inputs k v before) ∙ at ∙ sym is)
input_new net lawful place v below is (inr (k, low, at)) = absurd (omega (arith, low))

pub input_fits : (net : Netlist) → IsNetlist net → (place v : ℕ) → place < length net.inputs →
    get_or net.inputs place v ≡ v → IsVariable net.max_var v
input_fits net lawful place v below is = subst (IsVariable net.max_var) is (lawful.inputs_fit place v below)

abbrev pub with_gates : Netlist → ℕ → Netlist
with_gates net place = record net { outputs = []; gates = take place net.gates }

pub half : (v : ℕ) → 2 * v / 2 ≡ v
half v = omega arith

-- a gate that may be added at its place
pub record MayBeAdded (net : Netlist) (place literal left right : ℕ) : Type 0 where
  pub variable : IsVariable net.max_var (literal / 2)
  pub undefined : IsDefined (with_gates net place) (literal / 2) → ⊥
  pub left_fits : IsLiteral net.max_var left
  pub right_fits : IsLiteral net.max_var right

pub may_be_added : (net : Netlist) → IsNetlist net → (place : ℕ) (g : Gate) → place < length net.gates →
    get_or net.gates place g ≡ g → MayBeAdded net place (2 * g.variable) g.left g.right
may_be_added net lawful place g below is =
    let fits : IsGate net.max_var g = subst (IsGate net.max_var) is (lawful.gates_fit place g below) in
    record {
      variable = subst (IsVariable net.max_var) (sym (half g.variable)) fits.variable;
      undefined = λ defined. new (subst (IsDefined (with_gates net place)) (half g.variable) defined);
      left_fits = fits.left;
      right_fits = fits.right;
    } where
      new : IsDefined (with_gates net place) g.variable → ⊥
      new (inl inside) = All-contains (λ x. All (λ h. x ≢ h.variable) net.gates) net.inputs g.variable lawful.apart
          inside place g below (sym (ap (λ h. h.variable) is))
      new (inr (k, low, at)) =
          let long = length-map (take place net.gates) variable_of_gate in
          let taken = length-take place net.gates in
          let inside : k < length (take place net.gates) = omega (arith, low, long) in
          let before : k < place = omega (arith, inside, taken) in
          lawful.gates_once k place g before below
          (ap (λ h. h.variable) (sym (get_or-take place net.gates k g before))
          ∙ sym (get_or-map variable_of_gate (take place net.gates) k g g.variable inside) ∙ at
          ∙ sym (ap (λ h. h.variable) is))

pub gate_added : (net : Netlist) (place : ℕ) (g : Gate) (old new : Netlist) → place < length net.gates →
    get_or net.gates place g ≡ g → old ≡ with_gates net place →
    new ≡ record old {
      gates = old.gates ++ record { variable = 2 * g.variable / 2; left = g.left; right = g.right } ∷ [];
    }
    → new ≡ with_gates net (place + 1)
gate_added net place g old new below is old_is new_is =
    new_is
    ∙ ap (λ (o : Netlist). record o {
      gates = o.gates ++ record { variable = 2 * g.variable / 2; left = g.left; right = g.right } ∷ [];
    }) old_is
    ∙ ap (λ v. record net {
      outputs = [];
      gates = take place net.gates ++ record { variable = v; left = g.left; right = g.right } ∷ [];
    }) (half g.variable)
    ∙ ap (λ gs. record net { outputs = []; gates = gs })
    (ap (λ h. take place net.gates ++ h ∷ []) (sym is) ∙ sym (take_more net.gates place g below))

abbrev pub with_outputs : Netlist → ℕ → Netlist
with_outputs net place = record net { outputs = take place net.outputs }

pub output_added : (net : Netlist) (place l : ℕ) (old new : Netlist) → place < length net.outputs →
    get_or net.outputs place l ≡ l → old ≡ with_outputs net place →
    new ≡ record old { outputs = old.outputs ++ l ∷ [] } → new ≡ with_outputs net (place + 1)
output_added net place l old new below is old_is new_is =
    new_is ∙ ap (λ (o : Netlist). record o { outputs = o.outputs ++ l ∷ [] }) old_is
    ∙ ap (λ os. record net { outputs = os })
    (ap (λ k. take place net.outputs ++ k ∷ []) (sym is) ∙ sym (take_more net.outputs place l below))
