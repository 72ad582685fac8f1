-- The number of a circuit's variable by its place among inputs and gates.
use Rattle.std.proofs.Common.{◌≡◌, ℕ, zero, suc, ◌+◌, ◌-◌, ◌<◌, ◌≤◌, ◌==◌, nat_lt, Bool, true, false, cond, not, inl, inr, List, [], ◌∷◌, ◌++◌, map, length, Some, refl, sym, ◌∙◌, ap, arith}
use Rattle.std.specs.List.{list_any, position_or_len}
use Rattle.std.proofs.lemmas.Bool.{cond-true, cond-false, lt-ltb, le-ltb}
use Rattle.std.proofs.lemmas.List.{get_or_default}
use Rattle.dq_formula.proofs.Places.{place-found}
use Rattle.circuit_plain.specs.Netlist.{Netlist, IsNetlist, gate_at, gate_variables, left_variable, right_variable}
use Rattle.circuit_plain.specs.Ground.{IsGrounded}
use Rattle.circuit_plain.specs.declared.circuits.Gate.{Gate}
use Rattle.number_tables.specs.Numbers.{has_number, place_of}
use Rattle.pec_front.specs.BoxLine.{variables_of}
use Rattle.pec_front.specs.Encoding.{numbered_variable}
use Rattle.pec_front.proofs.Numbers.{first-place}
use Rattle.pec_front.proofs.RaisedLevels.{input-known, gate-known, no-gate}
use Rattle.pec_front.proofs.Values.{ground_cases, sides}
use Rattle.list_laws.proofs.Members.{contained_at}

place-joined : (p : ℕ → Bool) (xs ys : List ℕ) → position_or_len p (xs ++ ys)
    ≡ cond (list_any p xs) (position_or_len p xs) (length xs + position_or_len p ys)
place-joined p [] ys = let e : position_or_len p ys ≡ 0 + position_or_len p ys = omega arith in e
place-joined p (x ∷ xs) ys = search (arith, (place-joined p xs ys))

place-mapped : {X : Type 0} (f : X → ℕ) (p : ℕ → Bool) (xs : List X)
    → position_or_len p (map f xs) ≡ position_or_len (λ x. p (f x)) xs
place-mapped f p [] = refl
place-mapped f p (x ∷ xs) = ap (λ n. cond (not (p (f x))) (1 + n) 0) (place-mapped f p xs)

-- an input's number, or a gate's
pub numbered-at : (net : Netlist) (input : ℕ → ℕ) (first_gate v place : ℕ) → 1 ≤ v
    → place_of (variables_of net) v ≡ Some place → numbered_variable net input first_gate v
    ≡ cond (nat_lt place (length net.inputs)) (input place) (first_gate + (place - length net.inputs))
numbered-at net input first_gate zero place positive found = absurd (omega (arith, positive))
numbered-at net input first_gate (suc u) place positive found = by (list_any (λ x. x == suc u) net.inputs) refl
  where
    n : ℕ
    n = length net.inputs

    at-input : ℕ
    at-input = position_or_len (λ x. x == suc u) net.inputs

    at-gate : ℕ
    at-gate = position_or_len (λ (g : Gate). g.variable == suc u) net.gates

    at : position_or_len (λ x. x == suc u) (variables_of net) ≡ place
    at = (place-found (variables_of net) (suc u) place found).0

    split : position_or_len (λ x. x == suc u) (variables_of net)
        ≡ cond (list_any (λ x. x == suc u) net.inputs) at-input (n + at-gate)
    split = place-joined (λ x. x == suc u) net.inputs (gate_variables net)
        ∙ ap (λ k. cond (list_any (λ x. x == suc u) net.inputs) at-input (n + k))
        (place-mapped (λ (g : Gate). g.variable) (λ x. x == suc u) net.gates)

    by : (b : Bool) → list_any (λ x. x == suc u) net.inputs ≡ b → numbered_variable net input first_gate (suc u)
        ≡ cond (nat_lt place n) (input place) (first_gate + (place - n))
    by true e =
        let is : at-input ≡ place =
        sym (cond-true (list_any (λ x. x == suc u) net.inputs) at-input (n + at-gate) e) ∙ sym split ∙ at in
        let inside = (first-place (λ x. x == suc u) net.inputs 0 e).0 in
        cond-true (list_any (λ x. x == suc u) net.inputs) (input at-input) (first_gate + at-gate) e
        ∙ ap input is
        ∙ sym (cond-true (nat_lt place n) (input place) (first_gate + (place - n))
        (lt-ltb place n (omega (arith, is, inside))))
    by false e =
        let is : n + at-gate ≡ place =
        sym (cond-false (list_any (λ x. x == suc u) net.inputs) at-input (n + at-gate) e) ∙ sym split ∙ at in
        cond-false (list_any (λ x. x == suc u) net.inputs) (input at-input) (first_gate + at-gate) e
        ∙ ap (λ k. first_gate + k) (let k : at-gate ≡ place - n = omega (arith, is) in k)
        ∙ sym (cond-false (nat_lt place n) (input place) (first_gate + (place - n))
        (le-ltb place n (omega (arith, is))))

-- a variable that can be evaluated is an input or a gate, or the constant
pub grounded-known : (net : Netlist) (v : ℕ) → 1 ≤ v → IsGrounded net v → has_number (variables_of net) v ≡ true
grounded-known net v positive ground =
    elim (ground_cases ground) [
      | inl z ↦ absurd (omega (arith, z, positive))
      | inr (inl c) ↦ input-known net v c
      | inr (inr w) ↦
          let place = w.member.0 in
          let is : (gate_at net place).variable ≡ v =
          ap (λ (g : Gate). g.variable) (get_or_default net.gates place no-gate w.by w.member.1 ∙ w.member.2)
          ∙ sym w.is in
          ap (has_number (variables_of net)) (sym is) ∙ gate-known net place w.member.1
    ]

-- a gate's sides can be evaluated where its variable can
pub gate-sides : (net : Netlist) → IsNetlist net → (place : ℕ) → place < length net.gates
    → IsGrounded net (gate_at net place).variable
    → IsGrounded net (left_variable (gate_at net place)) × IsGrounded net (right_variable (gate_at net place))
gate-sides net is place below ground =
    sides net is (gate_at net place) (contained_at net.gates place no-gate below) ground

module _ (net : Netlist) (input : ℕ → ℕ) (first_gate v place : ℕ) (variables inputs : List ℕ) (positive : 1 ≤ v)
    (known : variables ≡ variables_of net) (found : place_of variables v ≡ Some place) (are : inputs ≡ net.inputs) where
  at : numbered_variable net input first_gate v
      ≡ cond (nat_lt place (length net.inputs)) (input place) (first_gate + (place - length net.inputs))
  at = numbered-at net input first_gate v place positive (ap (λ vs. place_of vs v) (sym known) ∙ found)

  -- where the place is behind the inputs
  pub gate-number : length inputs ≤ place → first_gate + (place - length inputs)
      ≡ numbered_variable net input first_gate v
  gate-number high =
      let many : length inputs ≡ length net.inputs = ap (λ (xs : List ℕ). length xs) are in
      ap (λ n. first_gate + (place - n)) many
      ∙ sym (at ∙ cond-false (nat_lt place (length net.inputs)) (input place)
      (first_gate + (place - length net.inputs)) (le-ltb place (length net.inputs) (omega (arith, high, many))))

  -- where it is an input's
  pub input-number : place < length inputs → input place ≡ numbered_variable net input first_gate v
  input-number low =
      let many : length inputs ≡ length net.inputs = ap (λ (xs : List ℕ). length xs) are in
      sym (at ∙ cond-true (nat_lt place (length net.inputs)) (input place)
      (first_gate + (place - length net.inputs)) (lt-ltb place (length net.inputs) (omega (arith, low, many))))
