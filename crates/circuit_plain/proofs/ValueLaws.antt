-- The laws of values.
use Rattle.std.proofs.Common.{◌≡◌, ℕ, ◌<◌, ◌⊎◌, inl, inr, Bool, false, ◌&&◌, List, length, refl, sym, ap, ◌∙◌, subst, arith}
use Rattle.std.specs.Prelude.{Contains, slice_index}
use Rattle.std.proofs.lemmas.List.{get_or_default}
use Rattle.std.proofs.lemmas.List.Elements.{All-contains}
use Rattle.circuit_plain.specs.declared.circuits.Gate.{Gate}
use Rattle.circuit_plain.specs.Ground.{IsGrounded, constant as ground_constant, input as ground_input, gate as ground_gate}
use Rattle.circuit_plain.specs.Netlist.{Netlist, IsNetlist, literal_variable, signed_bit, literal_bit}
use Rattle.circuit_plain.specs.Reach.{Reaches, itself, left, right}
use Rattle.circuit_plain.specs.Value.{HasValue, constant, input, gate, IsValuation, ValuesAreUnique, GroundedHaveValues, ValuesFollowReach, ValuationsAgree}
use Rattle.circuit_plain.proofs.NetlistLaws.{same_place, same_gate, input_fits, gate_fits, input_apart}

-- how an input, and how a gate, comes to its value
record IsInputValue (net : Netlist) (bits : ℕ → Bool) (v : ℕ) (b : Bool) : Type 0 where
  place : ℕ
  in_range : place < length net.inputs
  is : slice_index net.inputs place ≡ v
  bit : b ≡ bits place

record IsGateValue (net : Netlist) (bits : ℕ → Bool) (v : ℕ) (b : Bool) : Type 0 where
  by : Gate
  member : Contains net.gates by
  is : v ≡ by.variable
  a : Bool
  c : Bool
  on_left : HasValue net bits (literal_variable by.left) a
  on_right : HasValue net bits (literal_variable by.right) c
  bit : b ≡ (signed_bit by.left a && signed_bit by.right c)

value_cases : {net : Netlist} {bits : ℕ → Bool} {v : ℕ} {b : Bool} → HasValue net bits v b
    → ((v ≡ 0) × (b ≡ false)) ⊎ (IsInputValue net bits v b ⊎ IsGateValue net bits v b)
value_cases constant = inl (refl, refl)
value_cases (input i i_in e) = inr (inl (record { place = i; in_range = i_in; is = e; bit = refl }))
value_cases (gate {a} {b} g g_in p q) =
    inr (inr (record { by = g; member = g_in; is = refl; a = a; c = b; on_left = p; on_right = q; bit = refl }))

-- the element at a place, as a member of the list
pub Contains-place : (xs : List ℕ) (i v : ℕ) → i < length xs → slice_index xs i ≡ v → Contains xs v
Contains-place xs i v i_in e = (i, i_in, get_or_default xs i v 0 i_in ∙ e)

module _ (net : Netlist) (bits : ℕ → Bool) (kept : IsNetlist net) where
  constant_once : (b : Bool) → HasValue net bits 0 b → b ≡ false
  constant_once b h =
      elim (value_cases h) [
        | inl (z, e) ↦ e
        | inr (inl w) ↦ absurd (omega (
          arith,
          (input_fits net kept 0
              (Contains-place net.inputs w.place 0 w.in_range w.is)).0,
        ))
        | inr (inr w) ↦ absurd (omega (arith, (gate_fits net kept w.by w.member).variable.0, w.is))
      ]

  input_once : (i : ℕ) (v : ℕ) (b : Bool) → i < length net.inputs → slice_index net.inputs i ≡ v →
      HasValue net bits v b → b ≡ bits i
  input_once i v b i_in e h =
      let v_in : Contains net.inputs v = Contains-place net.inputs i v i_in e in
      elim (value_cases h) [
        | inl (z, _) ↦ absurd (omega (arith, (input_fits net kept v v_in).0))
        | inr (inl w) ↦
            let same : w.place ≡ i = same_place (λ x. x) net.inputs w.place i 0 kept.inputs_once w.in_range i_in
            (w.is ∙ sym e) in
            w.bit ∙ ap bits same
        | inr (inr w) ↦ absurd (input_apart net kept v w.by v_in w.member w.is)
      ]

  gate_once : (g : Gate) (b : Bool) → Contains net.gates g → HasValue net bits g.variable b →
      IsGateValue net bits g.variable b
  gate_once g b g_in h =
      elim (value_cases h) [
        | inl (z, _) ↦ absurd (omega (arith, (gate_fits net kept g g_in).variable.0))
        | inr (inl w) ↦ absurd (input_apart net kept g.variable g
            (Contains-place net.inputs w.place g.variable w.in_range w.is) g_in refl)
        | inr (inr w) ↦ w
      ]

  gate_value_is : (g : Gate) (a c b : Bool) → Contains net.gates g
      → ((d : Bool) → HasValue net bits (literal_variable g.left) d → a ≡ d)
      → ((d : Bool) → HasValue net bits (literal_variable g.right) d → c ≡ d)
      → HasValue net bits g.variable b → (signed_bit g.left a && signed_bit g.right c) ≡ b
  gate_value_is g a c b g_in on_left on_right h =
      let w = gate_once g b g_in h in
      let same : w.by ≡ g = same_gate net kept w.by g w.member g_in (sym w.is) in
      let left_is : a ≡ w.a = on_left w.a (subst (λ (x : Gate). HasValue net bits (literal_variable x.left) w.a) same
      w.on_left) in
      let right_is : c ≡ w.c = on_right w.c (subst (λ (x : Gate). HasValue net bits (literal_variable x.right) w.c) same
      w.on_right) in
      let bit = w.bit in
      cc

pub unique_value : (net : Netlist) (bits : ℕ → Bool) (kept : IsNetlist net) {v : ℕ} {a : Bool} → HasValue net bits v a
    → (b : Bool) → HasValue net bits v b → a ≡ b
unique_value net bits kept constant b h = sym (constant_once net bits kept b h)
unique_value net bits kept (input {v} i i_in e) b h = sym (input_once net bits kept i v b i_in e h)
unique_value net bits kept (gate {a} {b} g g_in p q) value h =
    gate_value_is net bits kept g a b value g_in (unique_value net bits kept p) (unique_value net bits kept q) h

pub values_are_unique : ValuesAreUnique
values_are_unique net bits v a b kept h k = unique_value net bits kept h b k

pub grounded_value : (net : Netlist) (bits : ℕ → Bool) {v : ℕ} → IsGrounded net v → (b : Bool) × HasValue net bits v b
grounded_value net bits ground_constant = (false, constant)
grounded_value net bits (ground_input {v} (i, i_in, e)) = (
  bits i,
  input i i_in (get_or_default net.inputs i 0 v i_in ∙ e),
)
grounded_value net bits (ground_gate g g_in p q) =
    let on_left = grounded_value net bits p in
    let on_right = grounded_value net bits q in
    (signed_bit g.left on_left.0 && signed_bit g.right on_right.0, gate g g_in on_left.1 on_right.1)

pub grounded_have_values : GroundedHaveValues
grounded_have_values net bits v h = grounded_value net bits h

pub value_follows_reach : (net : Netlist) (bits others : ℕ → Bool) {v : ℕ} {b : Bool} → HasValue net bits v b
    → ((i : ℕ) → i < length net.inputs → Reaches net v (slice_index net.inputs i) → bits i ≡ others i)
    → HasValue net others v b
value_follows_reach net bits others constant agree = constant
value_follows_reach net bits others (input {v} i i_in e) agree =
    let here : Reaches net v (slice_index net.inputs i) = subst
    (λ (x : ℕ). Reaches net x (slice_index net.inputs i)) e itself in
    subst (λ (x : Bool). HasValue net others v x) (sym (agree i i_in here)) (input i i_in e)
value_follows_reach net bits others (gate g g_in p q) agree =
    gate g g_in
    (value_follows_reach net bits others p (λ i i_in r. agree i i_in (left g g_in r)))
    (value_follows_reach net bits others q (λ i i_in r. agree i i_in (right g g_in r)))

pub values_follow_reach : ValuesFollowReach
values_follow_reach net bits others v b agree h = value_follows_reach net bits others h agree

pub valuation_agrees : (net : Netlist) (bits m : ℕ → Bool) → IsValuation net bits m → {v : ℕ} {b : Bool} →
    HasValue net bits v b → m v ≡ b
valuation_agrees net bits m meets constant = meets.constant
valuation_agrees net bits m meets (input i i_in e) = ap m (sym e) ∙ meets.inputs i i_in
valuation_agrees net bits m meets (gate g g_in p q) =
    let equation : m g.variable ≡ (literal_bit m g.left && literal_bit m g.right) =
    All-contains (λ h. m h.variable ≡ (literal_bit m h.left && literal_bit m h.right)) net.gates g meets.gates g_in in
    let on_left = valuation_agrees net bits m meets p in
    let on_right = valuation_agrees net bits m meets q in
    cc

pub valuations_agree : ValuationsAgree
valuations_agree net bits m v b meets h = valuation_agrees net bits m meets h
