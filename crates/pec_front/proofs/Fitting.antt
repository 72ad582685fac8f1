-- A choice that solves a design's formula fills its boxes.
use Rattle.std.proofs.Common.{◌≡◌, ℕ, ◌*◌, ◌<◌, Bool, true, false, not, ◌||◌, inl, inr, List, [], ◌∷◌, length, get_or, refl, sym, ◌∙◌, ap, arith}
use Rattle.std.specs.List.{All, AllByRecursion, flat_map}
use Rattle.std.proofs.lemmas.Bool.{true≢false, eq-eqb, cond-true, or_cases}
use Rattle.std.proofs.lemmas.List.Elements.{All-head, All-tail, All-from_recursion}
use Rattle.std.proofs.lemmas.List.Folds.{list_any_at}
use Rattle.std.proofs.lemmas.List.Sums.{position_or_len_is}
use Rattle.dq_lits.specs.Literal.{Assignment}
use Rattle.circuit_plain.specs.Netlist.{Netlist, IsNetlist, literal_bit}
use Rattle.circuit_plain.specs.Value.{IsValuation}
use Rattle.cert_text.specs.NegatedMatrix.{opposite_of, gate_clauses}
use Rattle.pec_front.specs.Encoding.{agreement_clauses, numbered_variable, numbered_gate}
use Rattle.pec_front.proofs.Clauses.{with_constant, raw_true, opposite-bit, flag-raised, flag-means}
use Rattle.pec_front.proofs.Circuits.{even-bit, seen_by, is-valuation}
use Rattle.pec_front.proofs.Encoded.{each-part}

abbrev pub Raw : Assignment → List ℕ → Type 0
Raw m clause = raw_true m clause ≡ true

-- the flag is true where the literals agree
pub raised : (m : Assignment) (flag a b : ℕ) → AllByRecursion (Raw m) (agreement_clauses flag a b) →
    literal_bit (with_constant m) a ≡ literal_bit (with_constant m) b → with_constant m flag ≡ true
raised m flag a b all same =
    let n = with_constant m in
    let f = n flag in
    let x = literal_bit n a in
    let y = literal_bit n b in
    let up : literal_bit n (2 * flag) ≡ f = even-bit n flag in
    flag-raised f x y
    (sym (ap (λ p. p || (x || (y || false))) up) ∙ all.1.1.0)
    (sym (ap (λ p. p || (literal_bit n (opposite_of a) || (literal_bit n (opposite_of b) || false))) up
    ∙ ap (λ p. f || (p || (literal_bit n (opposite_of b) || false))) (opposite-bit n a)
    ∙ ap (λ p. f || (not x || (p || false))) (opposite-bit n b)) ∙ all.1.1.1.0)
    same

-- and only there
pub means : (m : Assignment) (flag a b : ℕ) → AllByRecursion (Raw m) (agreement_clauses flag a b) →
    with_constant m flag ≡ true → literal_bit (with_constant m) a ≡ literal_bit (with_constant m) b
means m flag a b all up =
    let n = with_constant m in
    let f = n flag in
    let x = literal_bit n a in
    let y = literal_bit n b in
    let down : literal_bit n (opposite_of (2 * flag)) ≡ not f = opposite-bit n (2 * flag) ∙ ap not (even-bit n flag) in
    flag-means f x y
    (sym (ap (λ p. p || (literal_bit n (opposite_of a) || (y || false))) down
    ∙ ap (λ p. not f || (p || (y || false))) (opposite-bit n a)) ∙ all.0)
    (sym (ap (λ p. p || (x || (literal_bit n (opposite_of b) || false))) down
    ∙ ap (λ p. not f || (x || (p || false))) (opposite-bit n b)) ∙ all.1.0)
    up

-- an input's number is by its place
pub input-number : (net : Netlist) → IsNetlist net → (input : ℕ → ℕ) (first i : ℕ) → i < length net.inputs →
    numbered_variable net input first (get_or net.inputs i 0) ≡ input i
input-number net is input first i below = search (arith, eq-eqb, cond-true, list_any_at, position_or_len_is)

-- a circuit whose gates' clauses hold is seen as a valuation
pub seen-valuation : (net : Netlist) → IsNetlist net → (input : ℕ → ℕ) (first : ℕ) (bits : ℕ → Bool) (m : Assignment) →
    ((i : ℕ) → i < length net.inputs → with_constant m (input i) ≡ bits i) →
    AllByRecursion (Raw m)
    (flat_map (λ g. gate_clauses (numbered_gate (numbered_variable net input first) g)) net.gates) →
    IsValuation net bits (seen_by (numbered_variable net input first) m)
seen-valuation net is input first bits m values clauses =
    let number = numbered_variable net input first in
    let inputs : (i : ℕ) → i < length net.inputs → seen_by number m (get_or net.inputs i 0) ≡ bits i =
    λ i below. ap (with_constant m) (input-number net is input first i below) ∙ values i below in
    let each = All-from_recursion (λ g. AllByRecursion (Raw m) (gate_clauses (numbered_gate number g))) net.gates
    (each-part (Raw m) (λ g. gate_clauses (numbered_gate number g)) net.gates clauses) in
    record {
      constant = refl;
      inputs = inputs;
      gates = is-valuation net number bits m refl inputs
          (λ k d below. All-from_recursion (Raw m) (gate_clauses (numbered_gate number (get_or net.gates k d)))
          (each k d below));
    }

-- where all flags are true, the demand raises its own
pub demanded : (m : Assignment) (flag : ℕ) (opposites : List ℕ) → All (λ l. literal_bit (with_constant m) l ≡ false)
    opposites →
    Raw m (2 * flag ∷ opposites) → with_constant m flag ≡ true
demanded m flag opposites down h =
    elim (or_cases (literal_bit (with_constant m) (2 * flag)) (raw_true m opposites) h) [
      | inl here ↦ sym (even-bit (with_constant m) flag) ∙ here
      | inr later ↦ absurd (true≢false (sym later ∙ none opposites down))
    ]
  where
    none : (ls : List ℕ) → All (λ l. literal_bit (with_constant m) l ≡ false) ls → raw_true m ls ≡ false
    none [] all = refl
    none (l ∷ ls) all =
        let P : ℕ → Type 0 = λ k. literal_bit (with_constant m) k ≡ false in
        ap (λ p. p || raw_true m ls) (All-head P l ls all) ∙ none ls (All-tail P l ls all)
