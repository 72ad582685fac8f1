-- An assignment that gives the circuit's variables their values, and further variables what they are to tell.
use Rattle.std.proofs.Common.{◌≡◌, ℕ, zero, suc, ◌+◌, ◌-◌, ◌<◌, ◌≤◌, ltb, Bool, true, false, ◌&&◌, cond, inl, inr, List, [], ◌∷◌, ◌++◌, length, refl, sym, ◌∙◌, ap, subst, arith}
use Rattle.std.specs.List.{AllByRecursion, Contains}
use Rattle.std.proofs.lemmas.Bool.{lt-ltb, le-ltb}
use Rattle.std.proofs.lemmas.List.{get_or_default, get_or-map, length-map}
use Rattle.std.proofs.lemmas.List.Elements.{Contains-append_cases, Contains-append_left, Contains-append_right}
use Rattle.dq_formula.proofs.Places.{has, has-contains, contains-has}
use Rattle.circuit_plain.specs.declared.circuits.Gate.{Gate}
use Rattle.circuit_plain.specs.Ground.{IsGrounded, constant as ground_constant, input as ground_input}
use Rattle.circuit_plain.specs.Netlist.{Netlist, IsNetlist, left_variable, right_variable, variable_of_gate, gate_variables, signed_bit, literal_bit}
use Rattle.circuit_plain.specs.Value.{HasValue, constant, input, gate}
use Rattle.circuit_plain.proofs.NetlistLaws.{input_fits, gate_fits}
use Rattle.circuit_plain.proofs.ValueLaws.{grounded_have_values, values_are_unique}
use Rattle.skolem_checker.specs.Renaming.{known_variables}
use Rattle.skolem_checker.specs.SkolemCircuit.{IsComplete}
use Rattle.skolem_checker.proofs.RenamedNetlists.{known_constant, known_input, known_gate, sides_grounded}

only_zero : (v : ℕ) → Contains (0 ∷ []) v → v ≡ 0
only_zero v (zero, below, is) = sym is
only_zero v (suc k, below, is) = absurd (omega (arith, below))

pub each : {X : Type 0} (P : X → Type 0) (xs : List X) → ((x : X) → Contains xs x → P x) → AllByRecursion P xs
each P [] h = tt
each P (x ∷ xs) h = (
  h x (Contains-append_left (x ∷ []) xs x (0, omega arith, refl)),
  each P xs (λ y y_in. h y (Contains-append_right (x ∷ []) xs y y_in)),
)

module _ (net : Netlist) (kept : IsNetlist net) (complete : IsComplete net) (bits : ℕ → Bool) where
  known_grounded : (v : ℕ) → Contains (known_variables net) v → IsGrounded net v
  known_grounded v known =
      elim (Contains-append_cases (0 ∷ []) (net.inputs ++ gate_variables net) v known) [
        | inl first ↦ subst (IsGrounded net) (sym (only_zero v first)) ground_constant
        | inr rest ↦ elim (Contains-append_cases net.inputs (gate_variables net) v rest) [
          | inl at_input ↦ ground_input at_input
          | inr at_gate ↦
              let d : Gate = record { variable = v; left = 0; right = 0 } in
              let below : at_gate.0 < length net.gates = omega
              (arith, at_gate.1, length-map net.gates variable_of_gate) in
              subst (IsGrounded net) (sym (get_or-map variable_of_gate net.gates at_gate.0 d v below) ∙ at_gate.2)
              (complete.gates at_gate.0 d below)
        ]
      ]

  value_if : (v : ℕ) (b : Bool) → has (known_variables net) v ≡ b → Bool
  value_if v true known = (grounded_have_values net bits v (known_grounded v
      (contains-has (known_variables net) v known))).0
  value_if v false unknown = false

  value_if-is : (v : ℕ) (b : Bool) (h : has (known_variables net) v ≡ b) (x : Bool) → HasValue net bits v x → b ≡ true →
      value_if v b h ≡ x
  unfolding value_if
  value_if-is v true known x value is =
      search (arith, grounded_have_values, known_grounded, contains-has, values_are_unique)
  value_if-is v false unknown x value is = cc

  -- false where the circuit has no such variable
  circuit_value : ℕ → Bool
  circuit_value v = value_if v (has (known_variables net) v) refl

  -- a variable with a value is one of the circuit's
  record IsOfCircuit (v : ℕ) : Type 0 where
    known : has (known_variables net) v ≡ true
    in_range : v ≤ net.max_var

  value_of_circuit : {v : ℕ} {b : Bool} → HasValue net bits v b → IsOfCircuit v
  value_of_circuit constant = search (arith, has-contains, known_constant)
  value_of_circuit (input {v} i i_in e) =
      let v_in : Contains net.inputs v = (i, i_in, get_or_default net.inputs i v 0 i_in ∙ e) in
      record {
        known = has-contains (known_variables net) v (known_input net v v_in);
        in_range =
            (input_fits net kept v v_in).1;
      }
  value_of_circuit (gate g g_in p q) =
      record {
        known = has-contains (known_variables net) g.variable (known_gate net g g_in);
        in_range =
            (gate_fits net kept g g_in).variable.1;
      }

  module _ (tell : ℕ → Bool) where
    -- what is told stands behind the circuit's variables
    pub witness : ℕ → Bool
    witness v = cond (ltb v (net.max_var + 1)) (circuit_value v) (tell (v - (net.max_var + 1)))

    pub witness_value : (v : ℕ) (b : Bool) → HasValue net bits v b → witness v ≡ b
    unfolding witness circuit_value
    witness_value v b value = search (arith, value_of_circuit, lt-ltb, value_if-is)

    pub witness_tells : (j : ℕ) → witness (net.max_var + 1 + j) ≡ tell j
    unfolding witness
    witness_tells j = search (arith, le-ltb)

    pub witness_meets : (g : Gate) → Contains net.gates g → witness g.variable ≡
        (literal_bit witness g.left && literal_bit witness g.right)
    witness_meets g g_in =
        let sides = sides_grounded net g kept complete g_in in
        let on_left = grounded_have_values net bits (left_variable g) sides.0 in
        let on_right = grounded_have_values net bits (right_variable g) sides.1 in
        witness_value g.variable (signed_bit g.left on_left.0 && signed_bit g.right on_right.0)
        (gate g g_in on_left.1 on_right.1)
        ∙ ap (λ x. signed_bit g.left x && signed_bit g.right on_right.0)
        (sym (witness_value (left_variable g) on_left.0 on_left.1))
        ∙ ap (λ x. signed_bit g.left (witness (left_variable g)) && signed_bit g.right x)
        (sym (witness_value (right_variable g) on_right.0 on_right.1))
