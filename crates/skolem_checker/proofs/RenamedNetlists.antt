-- What a netlist keeps where its variables are renamed.
use Rattle.std.proofs.Common.{◌≡◌, ℕ, ◌+◌, ◌*◌, ◌/◌, ◌%◌, ◌<◌, ◌==◌, ◌⊎◌, Bool, false, not, ◌&&◌, [], ◌∷◌, ◌++◌, length, get_or, if◌then◌else◌, inl, inr, refl, sym, ap, ◌∙◌, subst, arith}
use Rattle.std.specs.Prelude.{Contains}
use Rattle.std.proofs.lemmas.List.{get_or-map, length-map}
use Rattle.std.proofs.lemmas.List.Elements.{All-map, All-contains, Contains-get_or, Contains-append_left, Contains-append_right}
use Rattle.circuit_plain.specs.declared.circuits.Gate.{Gate}
use Rattle.circuit_plain.specs.Ground.{IsGrounded, constant as ground_constant, input as ground_input, gate as ground_gate}
use Rattle.circuit_plain.specs.Netlist.{Netlist, IsNetlist, literal_variable, left_variable, right_variable, signed_bit, gate_variables, variable_of_gate}
use Rattle.circuit_plain.specs.Reach.{Reaches, itself, left, right}
use Rattle.circuit_plain.specs.Value.{HasValue, constant, input, gate}
use Rattle.circuit_plain.proofs.NetlistLaws.{same_gate, gate_fits, input_apart}
use Rattle.circuit_plain.proofs.ValueLaws.{grounded_have_values, values_are_unique}
use Rattle.skolem_checker.specs.Renaming.{renamed_literal, renamed_gate, renamed, known_variables}
use Rattle.skolem_checker.specs.SkolemCircuit.{IsComplete}

-- different known variables get different names, and the constant keeps its own
pub record IsRenaming (net : Netlist) (name : ℕ → ℕ) : Type 0 where
  pub constant_stays : name 0 ≡ 0
  pub apart : (v w : ℕ) → Contains (known_variables net) v → Contains (known_variables net) w → name v ≡ name w → v ≡ w

half : (n l : ℕ) → (2 * n + l % 2) / 2 ≡ n
half n l = omega arith

rest : (n l : ℕ) → (2 * n + l % 2) % 2 ≡ l % 2
rest n l = omega arith

pub renamed_variable : (name : ℕ → ℕ) (l : ℕ) → literal_variable (renamed_literal name l) ≡ name (literal_variable l)
renamed_variable name l = half (name (literal_variable l)) l

pub renamed_sign : (name : ℕ → ℕ) (l : ℕ) (b : Bool) → signed_bit (renamed_literal name l) b ≡ signed_bit l b
renamed_sign name l b = ap (λ r. if r == 1 then not b else b) (rest (name (literal_variable l)) l)

-- the known variables
pub known_constant : (net : Netlist) → Contains (known_variables net) 0
known_constant net = Contains-append_left (0 ∷ []) (net.inputs ++ gate_variables net) 0 (0, omega arith, refl)

pub known_input : (net : Netlist) (v : ℕ) → Contains net.inputs v → Contains (known_variables net) v
known_input net v h =
    Contains-append_right (0 ∷ []) (net.inputs ++ gate_variables net) v
    (Contains-append_left net.inputs (gate_variables net) v h)

pub known_gate : (net : Netlist) (g : Gate) → Contains net.gates g → Contains (known_variables net) g.variable
known_gate net g (k, k_in, is) =
    Contains-append_right (0 ∷ []) (net.inputs ++ gate_variables net) g.variable
    (Contains-append_right net.inputs (gate_variables net) g.variable
    (k, rw length-map k_in, get_or-map variable_of_gate net.gates k g _ k_in ∙ ap variable_of_gate is))

-- how a variable of the least set came into it
record IsGroundedGate (net : Netlist) (v : ℕ) : Type 0 where
  by : Gate
  member : Contains net.gates by
  is : v ≡ by.variable
  on_left : IsGrounded net (left_variable by)
  on_right : IsGrounded net (right_variable by)

grounded_cases : {net : Netlist} {v : ℕ} → IsGrounded net v → (v ≡ 0) ⊎ (Contains net.inputs v ⊎ IsGroundedGate net v)
grounded_cases ground_constant = inl refl
grounded_cases (ground_input i) = inr (inl i)
grounded_cases (ground_gate g g_in p q) = inr (inr (record {
  by = g;
  member = g_in;
  is = refl;
  on_left = p;
  on_right = q;
}))

-- what is in the least set is known
pub grounded_known : (net : Netlist) {v : ℕ} → IsGrounded net v → Contains (known_variables net) v
grounded_known net ground_constant = known_constant net
grounded_known net (ground_input {v} i) = known_input net v i
grounded_known net (ground_gate g g_in p q) = known_gate net g g_in

-- of a gate in the least set both right sides are in it
pub sides_grounded : (net : Netlist) (g : Gate) → IsNetlist net → IsComplete net → Contains net.gates g
    → IsGrounded net (left_variable g) × IsGrounded net (right_variable g)
sides_grounded net g kept complete g_in =
    elim (grounded_cases (All-contains (λ (h : Gate). IsGrounded net h.variable) net.gates g complete.gates g_in)) [
      | inl z ↦ absurd (omega (arith, (gate_fits net kept g g_in).variable.0))
      | inr (inl i) ↦ absurd (input_apart net kept g.variable g i g_in refl)
      | inr (inr w) ↦
          let same : w.by ≡ g = same_gate net kept w.by g w.member g_in (sym w.is) in (
            subst (λ (h : Gate). IsGrounded net (left_variable h)) same w.on_left,
            subst (λ (h : Gate). IsGrounded net (right_variable h)) same w.on_right,
          )
    ]

module _ (net : Netlist) (name : ℕ → ℕ) (max_var : ℕ) (renaming : IsRenaming net name) where
  abbrev copy : Netlist
  copy = renamed name max_var net

  renamed_member : (g : Gate) → Contains net.gates g → Contains copy.gates (renamed_gate name g)
  renamed_member g (k, k_in, is) =
      (k, rw length-map k_in, get_or-map (renamed_gate name) net.gates k g _ k_in ∙ ap (renamed_gate name) is)

  renamed_input : (v : ℕ) → Contains net.inputs v → Contains copy.inputs (name v)
  renamed_input v (k, k_in, is) = (k, rw length-map k_in, get_or-map name net.inputs k v _ k_in ∙ ap name is)

  -- a value, the least set and reach carry over to the copy
  pub value_renamed : (bits : ℕ → Bool) {v : ℕ} {b : Bool} → HasValue net bits v b →
      HasValue (renamed name max_var net) bits (name v) b
  value_renamed bits constant = subst (λ v. HasValue copy bits v false) (sym renaming.constant_stays) constant
  value_renamed bits (input {v} i i_in is) = input i (rw length-map i_in)
      (get_or-map name net.inputs i 0 0 i_in ∙ ap name is)
  value_renamed bits (gate {a} {b} g g_in p q) =
      let on_left : HasValue copy bits (left_variable (renamed_gate name g)) a =
      subst (λ v. HasValue copy bits v a) (sym (renamed_variable name g.left)) (value_renamed bits p) in
      let on_right : HasValue copy bits (right_variable (renamed_gate name g)) b =
      subst (λ v. HasValue copy bits v b) (sym (renamed_variable name g.right)) (value_renamed bits q) in
      subst (λ c. HasValue copy bits (name g.variable) (c && signed_bit g.right b)) (renamed_sign name g.left a)
      (subst (λ c. HasValue copy bits (name g.variable) (signed_bit (renamed_literal name g.left) a && c))
      (renamed_sign name g.right b)
      (gate (renamed_gate name g) (renamed_member g g_in) on_left on_right))

  pub grounded_renamed : {v : ℕ} → IsGrounded net v → IsGrounded (renamed name max_var net) (name v)
  grounded_renamed ground_constant = subst (IsGrounded copy) (sym renaming.constant_stays) ground_constant
  grounded_renamed (ground_input {v} i) = ground_input (renamed_input v i)
  grounded_renamed (ground_gate g g_in p q) =
      ground_gate (renamed_gate name g) (renamed_member g g_in)
      (subst (IsGrounded copy) (sym (renamed_variable name g.left)) (grounded_renamed p))
      (subst (IsGrounded copy) (sym (renamed_variable name g.right)) (grounded_renamed q))

  pub reach_renamed : {u v : ℕ} → Reaches net u v → Reaches (renamed name max_var net) (name u) (name v)
  reach_renamed itself = itself
  reach_renamed (left {x} g g_in r) =
      left (renamed_gate name g) (renamed_member g g_in)
      (subst (λ u. Reaches copy u (name x)) (sym (renamed_variable name g.left)) (reach_renamed r))
  reach_renamed (right {x} g g_in r) =
      right (renamed_gate name g) (renamed_member g g_in)
      (subst (λ u. Reaches copy u (name x)) (sym (renamed_variable name g.right)) (reach_renamed r))

  -- so the copy of a complete circuit is complete
  pub complete_renamed : IsComplete net → IsComplete (renamed name max_var net)
  complete_renamed complete = record {
    gates = All-map (λ (h : Gate). IsGrounded copy h.variable) (renamed_gate name) net.gates
        (λ k d below. grounded_renamed (complete.gates k d below));
    outputs = All-map (λ l. IsGrounded copy (literal_variable l)) (renamed_literal name) net.outputs (λ k d below.
        subst (IsGrounded copy) (sym (renamed_variable name (get_or net.outputs k d)))
        (grounded_renamed (complete.outputs k d below)));
  }

  -- and back: a value that the copy has, where the variable has one
  pub value_original : (bits : ℕ → Bool) (v : ℕ) (b : Bool) → IsNetlist (renamed name max_var net) → IsGrounded net v
      → HasValue (renamed name max_var net) bits (name v) b → HasValue net bits v b
  value_original bits v b kept grounded h =
      let value = grounded_have_values net bits v grounded in
      subst (HasValue net bits v) (values_are_unique copy bits (name v) value.0 b kept
      (value_renamed bits value.1) h) value.1

  -- the gate that a gate of the copy was
  record IsCopyOf (h : Gate) : Type 0 where
    by : Gate
    member : Contains net.gates by
    is : h ≡ renamed_gate name by

  gate_original : (h : Gate) → Contains copy.gates h → IsCopyOf h
  gate_original h (k, k_in, is) =
      let none : Gate = record { variable = 0; left = 0; right = 0 } in
      let inside : k < length net.gates = rw length-map at k_in in
      record {
        by = get_or net.gates k none;
        member = Contains-get_or net.gates k none inside;
        is = sym is ∙ get_or-map (renamed_gate name) net.gates k none h inside;
      }

  module _ (kept : IsNetlist net) (complete : IsComplete net) where
    abbrev IsKnown : ℕ → Type 0
    IsKnown v = Contains (known_variables net) v

    known_sides : (g : Gate) → Contains net.gates g → IsKnown (left_variable g) × IsKnown (right_variable g)
    known_sides g g_in =
        let sides = sides_grounded net g kept complete g_in in
        (grounded_known net sides.0, grounded_known net sides.1)

    pub reach_original : {x y : ℕ} → Reaches (renamed name max_var net) x y → (u v : ℕ)
        → Contains (known_variables net) u → Contains (known_variables net) v → name u ≡ x → name v ≡ y →
        Reaches net u v
    reach_original itself u v u_known v_known u_is v_is =
        subst (λ w. Reaches net u w) (renaming.apart u v u_known v_known (u_is ∙ sym v_is)) itself
    reach_original (left h h_in r) u v u_known v_known u_is v_is =
        let g = gate_original h h_in in
        let same : u ≡ g.by.variable = renaming.apart u g.by.variable u_known (known_gate net g.by g.member)
        (u_is ∙ ap variable_of_gate g.is) in
        let side : name (left_variable g.by) ≡ left_variable h =
        sym (ap left_variable g.is ∙ renamed_variable name g.by.left) in
        subst (λ w. Reaches net w v) (sym same)
        (left g.by g.member (reach_original r (left_variable g.by) v (known_sides g.by g.member).0 v_known side v_is))
    reach_original (right h h_in r) u v u_known v_known u_is v_is =
        let g = gate_original h h_in in
        let same : u ≡ g.by.variable = renaming.apart u g.by.variable u_known (known_gate net g.by g.member)
        (u_is ∙ ap variable_of_gate g.is) in
        let side : name (right_variable g.by) ≡ right_variable h =
        sym (ap right_variable g.is ∙ renamed_variable name g.by.right) in
        subst (λ w. Reaches net w v) (sym same)
        (right g.by g.member (reach_original r (right_variable g.by) v (known_sides g.by g.member).1 v_known side v_is))
