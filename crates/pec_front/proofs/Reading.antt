-- The copies that a driven input sees are those of what its box reads.
use Rattle.std.proofs.Common.{◌≡◌, ℕ, suc, ◌+◌, ◌*◌, ◌/◌, ◌<◌, ◌==◌, nat_lt, Bool, true, false, ◌||◌, List, [], ◌∷◌, ◌++◌, map, length, get_or, refl, sym, ◌∙◌, ap, arith, length-append}
use Rattle.std.specs.List.{All, Contains, list_any, range_with_len, position_or_len}
use Rattle.std.proofs.Math.ListN.{get_or-append}
use Rattle.std.proofs.lemmas.Bool.{true≢false, eq-eqb, ne_eqb, le-ltb, cond-true, cond-false}
use Rattle.std.proofs.lemmas.List.{get_or-append-add, append_assoc}
use Rattle.std.proofs.lemmas.List.Elements.{All-contains}
use Rattle.std.proofs.lemmas.List.Sums.{position_or_len_is}
use Rattle.list_laws.proofs.Members.{contains_tested}
use Rattle.dq_lits.specs.Henkin.{same_bits}
use Rattle.circuit_plain.specs.Netlist.{literal_bit, literal_variable}
use Rattle.pec_front.specs.Boxes.{BlackBox, PartialDesign, bits_read, signals}
use Rattle.pec_front.specs.Encoding.{first_copy, copies_for, driven_existential}
use Rattle.pec_front.specs.Choices.{signal_bits, chosen_functions, ChoicesFillBoxes, ChosenBoxesFit}
use Rattle.pec_front.proofs.Choosing.{read-from}

-- what is found of the box that drives a literal
record Driver (d : PartialDesign) (bits mi : ℕ → Bool) (next : ℕ) (boxes : List BlackBox) (out : ℕ) : Type 0 where
  box : BlackBox
  inside : Contains boxes box
  drives : list_any (λ o. o == out) box.outs ≡ true
  reads : map (signal_bits d bits mi) (copies_for next boxes out) ≡ bits_read mi box

found : (d : PartialDesign) (bits mi : ℕ → Bool) (boxes : List BlackBox) (before : List ℕ) (next out : ℕ)
    → signals d.boxes ≡ before ++ signals boxes → next ≡ first_copy d + length before →
    list_any (λ box. list_any (λ o. o == out) box.outs) boxes ≡ true → Driver d bits mi next boxes out
found d bits mi [] before next out e at h = absurd (true≢false (sym h))
found d bits mi (box ∷ boxes) before next out e at h =
    by (list_any (λ o. o == out) box.outs) refl
    (λ rest. found d bits mi boxes (before ++ box.ins) (next + length box.ins) out
    (e ∙ sym (append_assoc before box.ins (signals boxes)))
    (let long = length-append before box.ins in omega (arith, at, long)) rest)
  where
    ins : List ℕ
    ins = box.ins

    bit-at : (j : ℕ) → j < length ins → signal_bits d bits mi (next + j) ≡ literal_bit mi (get_or ins j 0)
    bit-at j below = search (arith, nat_lt, le-ltb, cond-false, get_or-append-add, get_or-append)

    by : (b : Bool) → list_any (λ o. o == out) box.outs ≡ b →
        (list_any (λ z. list_any (λ o. o == out) z.outs) boxes ≡ true → Driver d bits mi (next + length ins) boxes
        out) → Driver d bits mi next (box ∷ boxes) out
    by true is later = record {
      box = box;
      inside = (0, omega arith, refl);
      drives = is;
      reads = ap (map (signal_bits d bits mi))
          (cond-true (list_any (λ o. o == out) box.outs) (range_with_len next (length ins))
          (copies_for (next + length ins) boxes out) is)
          ∙ read-from mi (signal_bits d bits mi) next ins bit-at;
    }
    by false is later =
        let r = later (sym (ap (λ b. b || list_any (λ z. list_any (λ o. o == out) z.outs) boxes) is) ∙ h) in
        record {
          box = r.box;
          inside = (suc r.inside.0, (let i = r.inside.1 in omega (arith, i)), r.inside.2);
          drives = r.drives;
          reads = ap (map (signal_bits d bits mi))
              (cond-false (list_any (λ o. o == out) box.outs) (range_with_len next (length ins))
              (copies_for (next + length ins) boxes out) is) ∙ r.reads;
        }

pub fit : ChoicesFillBoxes → ChosenBoxesFit
fit fill d choice keeps all-driven lawful solves bits ms mi specified implemented filled =
    fill d choice keeps lawful solves bits ms mi specified implemented (λ i low below.
    let inputs = d.implementation.inputs in
    let v = get_or inputs i 0 in
    let out = 2 * v in
    let start : first_copy d ≡ first_copy d + 0 = omega arith in
    let driver = found d bits mi d.boxes [] (first_copy d) out refl start (all-driven i low below) in
    let Filled : ℕ → Type 0 = λ o. mi (literal_variable o) ≡ chosen_functions d choice o (bits_read mi driver.box) in
    let one : Filled out = All-contains Filled driver.box.outs out
    (All-contains
    (λ box. All (λ o. mi (literal_variable o) ≡ chosen_functions d choice o (bits_read mi box)) box.outs) d.boxes
    driver.box filled driver.inside)
    (contains_tested driver.box.outs out driver.drives) in
    let half : v ≡ out / 2 = omega arith in
    let place : position_or_len (λ x. 2 * x == out) inputs ≡ i =
    position_or_len_is (λ x. 2 * x == out) inputs i 0 (omega (arith, below))
    (λ k earlier. ne_eqb (2 * get_or inputs k 0) out
    (λ same. keeps.implementation.inputs_once k i 0 earlier below (omega (arith, same))))
    (λ inside. eq-eqb (2 * v) out refl) in
    ap mi half ∙ one
    ∙ ap (λ p. list_any (same_bits (bits_read mi driver.box)) (choice (driven_existential d p))) place
    ∙ ap (λ bs. list_any (same_bits bs) (choice (driven_existential d i))) (sym driver.reads))
