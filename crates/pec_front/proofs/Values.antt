-- A circuit whose gates are all grounded has a valuation under any bits.
use Rattle.std.proofs.Common.{◌≡◌, ℕ, zero, suc, ◌<◌, ◌==◌, Bool, true, false, ◌||◌, ◌⊎◌, inl, inr, List, [], ◌∷◌, length, get_or, refl, sym, ◌∙◌, ap, subst, arith}
use Rattle.std.specs.List.{All, Contains, list_any}
use Rattle.std.proofs.lemmas.Bool.{true≢false, eqb-true, eq-eqb, or_cases}
use Rattle.std.proofs.lemmas.List.Elements.{All-contains}
use Rattle.circuit_plain.specs.Netlist.{Netlist, IsNetlist, left_variable, right_variable}
use Rattle.circuit_plain.specs.declared.circuits.Gate.{Gate}
use Rattle.circuit_plain.specs.Ground.{IsGrounded, constant as ground_constant, input as ground_input, gate as ground_gate}
use Rattle.circuit_plain.specs.Value.{HasValue, constant, input, gate, IsValuation, ValuesAreUnique, GroundedHaveValues, ValuesFollowReach}
use Rattle.circuit_plain.proofs.NetlistLaws.{same_gate, gate_fits, input_apart}
use Rattle.list_laws.proofs.Members.{contained_at}

pub contained : {X : Type 0} (p : X → Bool) (xs : List X) → list_any p xs ≡ true → (x : X) × Contains xs x
    × (p x ≡ true)
contained p [] h = absurd (true≢false (sym h))
contained p (x ∷ xs) h =
    elim (or_cases (p x) (list_any p xs) h) [
      | inl here ↦ (x, (0, omega arith, refl), here)
      | inr later ↦ let r = contained p xs later in (r.0, (suc r.1.0, (let e = r.1.1 in omega (arith, e)), r.1.2), r.2)
    ]

pub any-contained : {X : Type 0} (p : X → Bool) (xs : List X) (i : ℕ) (x : X) → i < length xs → get_or xs i x ≡ x
    → p x ≡ true → list_any p xs ≡ true
any-contained p [] i x below e h = absurd (omega (arith, below))
any-contained p (y ∷ ys) zero x below e h = ap (λ b. b || list_any p ys) (ap p e ∙ h)
any-contained p (y ∷ ys) (suc i) x below e h = search (arith, (any-contained p ys i x))

-- how a grounded variable comes to be one
pub record GroundedGate (net : Netlist) (v : ℕ) : Type 0 where
  pub by : Gate
  pub member : Contains net.gates by
  pub is : v ≡ by.variable
  pub on_left : IsGrounded net (left_variable by)
  pub on_right : IsGrounded net (right_variable by)

pub ground_cases : {net : Netlist} {v : ℕ} → IsGrounded net v → (v ≡ 0) ⊎ (Contains net.inputs v ⊎ GroundedGate net v)
ground_cases ground_constant = inl refl
ground_cases (ground_input c) = inr (inl c)
ground_cases (ground_gate g g_in p q) =
    inr (inr (record { by = g; member = g_in; is = refl; on_left = p; on_right = q }))

pub record Ground : Type 0 where
  pub net : Netlist
  pub is : IsNetlist net
  pub gates : All (λ g. IsGrounded net g.variable) net.gates
  pub grounded : GroundedHaveValues
  pub unique : ValuesAreUnique
  pub follow : ValuesFollowReach

-- the sides of a gate are grounded
pub sides : (net : Netlist) → IsNetlist net → (g : Gate) → Contains net.gates g → IsGrounded net g.variable
    → IsGrounded net (left_variable g) × IsGrounded net (right_variable g)
sides net is g inside ground =
    elim (ground_cases ground) [
      | inl z ↦ absurd (omega (arith, (gate_fits net is g inside).variable.0, z))
      | inr (inl c) ↦ absurd (input_apart net is g.variable g c inside refl)
      | inr (inr w) ↦
          let same : w.by ≡ g = same_gate net is w.by g w.member inside (sym w.is) in (
            subst (λ (x : Gate). IsGrounded net (left_variable x)) same w.on_left,
            subst
                (λ (x : Gate). IsGrounded net (right_variable x)) same w.on_right,
          )
    ]

decide : (net : Netlist) → All (λ g. IsGrounded net g.variable) net.gates → (v : ℕ) → IsGrounded net v
    ⊎ (¬ IsGrounded net v)
decide net gates v = by (v == 0) (list_any (λ x. x == v) net.inputs) (list_any (λ g. g.variable == v) net.gates) refl
    refl refl
  where
    by : (a b c : Bool) → (v == 0) ≡ a → list_any (λ x. x == v) net.inputs ≡ b
        → list_any (λ g. g.variable == v) net.gates ≡ c → IsGrounded net v ⊎ (¬ IsGrounded net v)
    by true b c ea eb ec = inl (subst (λ (n : ℕ). IsGrounded net n) (sym (eqb-true v 0 ea)) ground_constant)
    by false true c ea eb ec =
        let r = contained (λ x. x == v) net.inputs eb in
        inl (ground_input (subst (λ (n : ℕ). Contains net.inputs n) (eqb-true r.0 v r.2) r.1))
    by false false true ea eb ec =
        let r = contained (λ (g : Gate). g.variable == v) net.gates ec in
        inl (subst (λ (n : ℕ). IsGrounded net n) (eqb-true r.0.variable v r.2)
        (All-contains (λ (g : Gate). IsGrounded net g.variable) net.gates r.0 gates r.1))
    by false false false ea eb ec = inr (λ ground. elim (ground_cases ground) [
      | inl z ↦ true≢false (sym (eq-eqb v 0 z) ∙ ea)
      | inr (inl c) ↦ true≢false (sym (any-contained (λ x. x == v) net.inputs c.0 v c.1 c.2 (eq-eqb v v refl)) ∙ eb)
      | inr (inr w) ↦ search (arith, true≢false, any-contained, eq-eqb)
    ])

abbrev pick : (w : Ground) (bits : ℕ → Bool) (v : ℕ) → IsGrounded w.net v ⊎ (¬ IsGrounded w.net v) → Bool
pick w bits v (inl ground) = (w.grounded w.net bits v ground).0
pick w bits v (inr never) = false

has-pick : (w : Ground) (bits : ℕ → Bool) (v : ℕ) (s : IsGrounded w.net v ⊎ (¬ IsGrounded w.net v))
    → IsGrounded w.net v → HasValue w.net bits v (pick w bits v s)
has-pick w bits v (inl ground) g = (w.grounded w.net bits v ground).1
has-pick w bits v (inr never) g = absurd (never g)

-- the values under these bits
pub value_in : Ground → (ℕ → Bool) → ℕ → Bool
value_in w bits v = pick w bits v (decide w.net w.gates v)

pub has-value : (w : Ground) (bits : ℕ → Bool) (v : ℕ) → IsGrounded w.net v → HasValue w.net bits v (value_in w bits v)
unfolding value_in
has-value w bits v ground = has-pick w bits v (decide w.net w.gates v) ground

pub valuation : (w : Ground) (bits : ℕ → Bool) → IsValuation w.net bits (value_in w bits)
valuation w bits = record {
  constant = w.unique w.net bits 0 (value_in w bits 0) false w.is (has-value w bits 0 ground_constant) constant;
  inputs = λ i below.
      let v = get_or w.net.inputs i 0 in
      w.unique w.net bits v (value_in w bits v) (bits i) w.is
      (has-value w bits v (ground_input (contained_at w.net.inputs i 0 below))) (input i below refl);
  gates = λ k d below.
      let g = get_or w.net.gates k d in
      let inside : Contains w.net.gates g = contained_at w.net.gates k d below in
      let ground : IsGrounded w.net g.variable = w.gates k d below in
      let two = sides w.net w.is g inside ground in
      w.unique w.net bits g.variable (value_in w bits g.variable) _ w.is (has-value w bits g.variable ground)
      (gate g inside (has-value w bits (left_variable g) two.0) (has-value w bits (right_variable g) two.1));
}
