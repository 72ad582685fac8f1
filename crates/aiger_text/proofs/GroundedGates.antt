-- Whether every gate is in the least set is decided: gates join it as long as one can.
use Rattle.std.proofs.Common.{◌≡◌, ℕ, zero, suc, ◌<◌, ◌≤◌, ◌==◌, ◌⊎◌, get_or, Bool, true, false, not, cond, ◌&&◌, ◌||◌, inl, inr, List, [], ◌∷◌, length, All, Option, Some, None, refl, arith}
use Rattle.std.specs.List.{list_any, position}
use Rattle.std.proofs.lemmas.Bool.{and_from, and_parts, and_cases, or_left, or_right, or_cases, not-true, not-false, eq-eqb, eqb-true, cases_Bool, both_ways, cond-true, cond-false}
use Rattle.std.proofs.lemmas.List.Elements.{All-contains, All-cons, Contains-get_or}
use Rattle.std.proofs.lemmas.List.Quantifiers.{position-Some}
use Rattle.circuit_plain.proofs.NetlistLaws.{found_among}
use Rattle.circuit_plain.specs.Ground.{IsGrounded, constant, input, gate, IsFirstUngrounded}
use Rattle.circuit_plain.specs.Netlist.{Netlist, left_variable, right_variable, gate_at}
use Rattle.circuit_plain.specs.declared.circuits.Gate.{Gate}
use Rattle.aiger_text.specs.Scan.{AllGrounded}
use Rattle.aiger_text.proofs.FinishedFiles.{none_passes}

module _ (net : Netlist) where
  -- the constant, an input, or one of these variables
  abbrev settled : List ℕ → ℕ → Bool
  settled vs v = (v == 0) || (list_any (λ x. x == v) net.inputs || list_any (λ x. x == v) vs)

  -- a gate that isn't among them, while the variables of its right sides are
  abbrev can_join : List ℕ → Gate → Bool
  can_join vs g = not (settled vs g.variable) && (settled vs (left_variable g) && settled vs (right_variable g))

  abbrev left_out : List ℕ → List Gate → ℕ
  left_out vs [] = 0
  left_out vs (g ∷ gs) = cond (settled vs g.variable) (left_out vs gs) (suc (left_out vs gs))

  settled_more : (w : ℕ) (vs : List ℕ) (v : ℕ) → settled vs v ≡ true → settled (w ∷ vs) v ≡ true
  settled_more w vs v h = search (arith, or_cases, or_left, or_right)

  settled_new : (w : ℕ) (vs : List ℕ) → settled (w ∷ vs) w ≡ true
  settled_new w vs = search (arith, or_right, or_left, eq-eqb)

  settled_grounded : (vs : List ℕ) → All (IsGrounded net) vs → (v : ℕ) → settled vs v ≡ true → IsGrounded net v
  settled_grounded vs grounded v h =
      search (arith, or_cases, eqb-true, found_among, All-contains, list_any, constant, input)

  -- where no gate can join, nothing else is in the least set
  grounded_settled : (vs : List ℕ) → position (can_join vs) net.gates ≡ None → {v : ℕ} → IsGrounded net v →
      settled vs v ≡ true
  grounded_settled vs closed constant = refl
  grounded_settled vs closed (input {v = v} i) = search (arith, or_right, or_left, found_among)
  grounded_settled vs closed (gate g (k, k_in, is) p q) =
      search (
        arith,
        none_passes,
        and_from,
        (grounded_settled vs closed p),
        (grounded_settled vs closed q),
        and_cases,
        not-false,
      )

  no_more : (w : ℕ) (vs : List ℕ) (gs : List Gate) → left_out (w ∷ vs) gs ≤ left_out vs gs
  no_more w vs [] = omega arith
  no_more w vs (g ∷ gs) =
      let rest = no_more w vs gs in
      elim (cases_Bool (settled vs g.variable)) [
        | inl put ↦
            let old = cond-true (settled vs g.variable) (left_out vs gs) (suc (left_out vs gs)) put in
            let new = cond-true (settled (w ∷ vs) g.variable) (left_out (w ∷ vs) gs) (suc (left_out (w ∷ vs) gs))
            (settled_more w vs g.variable put) in
            omega arith
        | inr off ↦
            let old = cond-false (settled vs g.variable) (left_out vs gs) (suc (left_out vs gs)) off in
            elim (cases_Bool (settled (w ∷ vs) g.variable)) [
              | inl now ↦ let new = cond-true (settled (w ∷ vs) g.variable) (left_out (w ∷ vs) gs)
                  (suc (left_out (w ∷ vs) gs)) now in omega arith
              | inr still ↦ let new = cond-false (settled (w ∷ vs) g.variable) (left_out (w ∷ vs) gs)
                  (suc (left_out (w ∷ vs) gs)) still in omega arith
            ]
      ]

  fewer : (vs : List ℕ) (gs : List Gate) (k : ℕ) (d : Gate) → k < length gs →
      settled vs (get_or gs k d).variable ≡ false →
      left_out ((get_or gs k d).variable ∷ vs) gs < left_out vs gs
  fewer vs [] k d below off = absurd (omega arith)
  fewer vs (g ∷ gs) zero d below off =
      let w = g.variable in
      let rest = no_more w vs gs in
      let old = cond-false (settled vs w) (left_out vs gs) (suc (left_out vs gs)) off in
      let new = cond-true (settled (w ∷ vs) w) (left_out (w ∷ vs) gs) (suc (left_out (w ∷ vs) gs)) (settled_new w vs) in
      omega arith
  fewer vs (g ∷ gs) (suc k) d below off =
      let w = (get_or gs k d).variable in
      let rest = fewer vs gs k d (omega arith) off in
      elim (cases_Bool (settled vs g.variable)) [
        | inl put ↦
            let old = cond-true (settled vs g.variable) (left_out vs gs) (suc (left_out vs gs)) put in
            let new = cond-true (settled (w ∷ vs) g.variable) (left_out (w ∷ vs) gs) (suc (left_out (w ∷ vs) gs))
            (settled_more w vs g.variable put) in
            omega arith
        | inr out ↦
            let old = cond-false (settled vs g.variable) (left_out vs gs) (suc (left_out vs gs)) out in
            elim (cases_Bool (settled (w ∷ vs) g.variable)) [
              | inl now ↦ let new = cond-true (settled (w ∷ vs) g.variable) (left_out (w ∷ vs) gs)
                  (suc (left_out (w ∷ vs) gs)) now in omega arith
              | inr still ↦ let new = cond-false (settled (w ∷ vs) g.variable) (left_out (w ∷ vs) gs)
                  (suc (left_out (w ∷ vs) gs)) still in omega arith
            ]
      ]

  abbrev Decision : Type 0
  Decision = AllGrounded net ⊎ ((place : ℕ) × IsFirstUngrounded net place)

  at_end : (vs : List ℕ) → All (IsGrounded net) vs → position (can_join vs) net.gates ≡ None → (first : Option ℕ) →
      position (λ g. not (settled vs g.variable)) net.gates ≡ first → Decision
  at_end vs grounded closed None none =
      inl (λ k d below. settled_grounded vs grounded (get_or net.gates k d).variable
      (not-false (settled vs (get_or net.gates k d).variable)
      (none_passes (λ g. not (settled vs g.variable)) net.gates none k d below)))
  at_end vs grounded closed (Some place) found =
      let test : Gate → Bool = λ g. not (settled vs g.variable) in
      let no_gate : Gate = record { variable = 0; left = 0; right = 0 } in
      let is = position-Some test net.gates place no_gate found in
      inr (
        place,
        record {
          in_range = is.0;
          outside = λ inside. both_ways (settled vs (gate_at net place).variable)
              (not-true (settled vs (gate_at net place).variable) is.1) (grounded_settled vs closed inside);
          first = λ p before. settled_grounded vs grounded (gate_at net p).variable
              (not-false (settled vs (gate_at net p).variable) (is.2 p before));
        },
      )

  decide_from : (fuel : ℕ) (vs : List ℕ) → left_out vs net.gates ≤ fuel → All (IsGrounded net) vs →
      (joining : Option ℕ) → position (can_join vs) net.gates ≡ joining → Decision
  decide_from fuel vs enough grounded None closed = at_end vs grounded closed
      (position (λ g. not (settled vs g.variable)) net.gates) refl
  decide_from zero vs enough grounded (Some place) found =
      let no_gate : Gate = record { variable = 0; left = 0; right = 0 } in
      let is = position-Some (can_join vs) net.gates place no_gate found in
      let g = get_or net.gates place no_gate in
      let tests = and_parts (not (settled vs g.variable)) (settled vs (left_variable g) && settled vs
      (right_variable g)) is.1 in
      let below = fewer vs net.gates place no_gate is.0 (not-true (settled vs g.variable) tests.0) in
      absurd (omega arith)
  decide_from (suc fuel) vs enough grounded (Some place) found =
      let no_gate : Gate = record { variable = 0; left = 0; right = 0 } in
      let is = position-Some (can_join vs) net.gates place no_gate found in
      let g = get_or net.gates place no_gate in
      let tests = and_parts (not (settled vs g.variable)) (settled vs (left_variable g) && settled vs
      (right_variable g)) is.1 in
      let sides = and_parts (settled vs (left_variable g)) (settled vs (right_variable g)) tests.1 in
      let below = fewer vs net.gates place no_gate is.0 (not-true (settled vs g.variable) tests.0) in
      let joins : IsGrounded net g.variable =
      gate g (Contains-get_or net.gates place no_gate is.0) (settled_grounded vs grounded (left_variable g) sides.0)
      (settled_grounded vs grounded (right_variable g) sides.1) in
      let more = g.variable ∷ vs in
      decide_from fuel more (omega arith) (All-cons (IsGrounded net) g.variable vs joins grounded)
      (position (can_join more) net.gates) refl

  pub all_grounded_or_first : AllGrounded net ⊎ ((place : ℕ) × IsFirstUngrounded net place)
  all_grounded_or_first =
      decide_from (left_out [] net.gates) [] (omega arith) (λ k d below. absurd (omega arith))
      (position (can_join []) net.gates) refl
