-- A lawful design is one on the page.
use Rattle.std.proofs.Common.{◌≡◌, ◌≢◌, ℕ, suc, ◌+◌, ◌-◌, ◌*◌, ◌/◌, ◌<◌, ◌≤◌, ◌==◌, inl, inr, true, List, [], ◌∷◌, ◌++◌, length, map, drop, get_or, refl, sym, ◌∙◌, ap, subst, arith, length-drop}
use Rattle.std.specs.List.{All, AllPairs, Contains, list_any}
use Rattle.std.specs.Prelude.{slice_index, slice_index_or}
use Rattle.std.proofs.lemmas.Bool.{or_cases}
use Rattle.std.proofs.lemmas.List.{get_or-drop, get_or_default}
use Rattle.std.proofs.lemmas.List.Elements.{All-append, All-same, All-weaker, Contains-append_left, Contains-append_right}
use Rattle.list_laws.proofs.Members.{contains_map, contains_tested}
use Rattle.circuit_plain.specs.Netlist.{Netlist}
use Rattle.circuit_plain.specs.Reach.{Reaches as ReadReaches}
use Rattle.headline.specs.BlackBoxes.{AreOrdered, Design, IsDesign, driven}
use Rattle.headline.specs.Headline.{IsCircuit, Reaches}
use Rattle.headline_laws.proofs.Circuits.{page_circuit, page_reaches}
use Rattle.pec_front.specs.Boxes.{BlackBox, IsFurtherInput, IsLawfulDesign, StandInOrder}
use Rattle.pec_front.specs.Boxes.{driven as read_driven}
use Rattle.pec_front.specs.Reading.{design_with}
use Rattle.box_laws.proofs.StatedBoxes.{page_box}

abbrev pub page_design : Netlist → Netlist → List BlackBox → Design
page_design specification implementation boxes = record {
  specification = page_circuit specification;
  implementation = page_circuit implementation;
  boxes = map page_box boxes;
}

driven_same : (boxes : List BlackBox) → driven (map page_box boxes) ≡ read_driven boxes
driven_same [] = refl
driven_same (box ∷ boxes) = ap (λ outs. box.outs ++ outs) (driven_same boxes)

-- a later place, counted from the first that is kept
kept_at : (n : ℕ) (xs : List ℕ) (i : ℕ) → n ≤ i → i < length xs → Contains (drop n xs) (slice_index xs i)
kept_at n xs i least below =
    let v = slice_index xs i in
    let long = length-drop n xs in
    let there : n + (i - n) ≡ i = omega (arith, least) in (
      i - n,
      omega (arith, long, least, below),
      get_or-drop n xs (i - n) v ∙ (ap (λ k. get_or xs k v) there ∙ get_or_default xs i v 0 below),
    )

drives_further : (specification implementation : Netlist) (boxes : List BlackBox) (out : ℕ) →
    IsFurtherInput (design_with specification implementation boxes) out →
    Contains (map (λ v. 2 * v) (drop (length specification.inputs) implementation.inputs)) out
drives_further specification implementation boxes out (i, least, below, is) =
    let inputs = implementation.inputs in
    let n = length specification.inputs in
    subst (Contains (map (λ v. 2 * v) (drop n inputs))) (sym is)
    (contains_map (λ v. 2 * v) (drop n inputs) (slice_index inputs i) (kept_at n inputs i least below))

driven_there : (boxes : List BlackBox) (x : ℕ) →
    list_any (λ (box : BlackBox). list_any (λ o. o == x) box.outs) boxes ≡ true → Contains (driven (map page_box boxes)) x
driven_there [] x h = cc
driven_there (box ∷ boxes) x h =
    elim (or_cases (list_any (λ o. o == x) box.outs)
    (list_any (λ (other : BlackBox). list_any (λ o. o == x) other.outs) boxes) h) [
      | inl here ↦ Contains-append_left box.outs (driven (map page_box boxes)) x (contains_tested box.outs x here)
      | inr later ↦ Contains-append_right box.outs (driven (map page_box boxes)) x (driven_there boxes x later)
    ]

each_driven : (P : ℕ → Type 0) (boxes : List BlackBox) → ((j : ℕ) (default : BlackBox) → j < length boxes →
    All P (slice_index_or boxes j default).outs) → All P (driven (map page_box boxes))
each_driven P [] h = λ k d below. absurd (omega (arith, below))
each_driven P (box ∷ boxes) h =
    All-append P box.outs (driven (map page_box boxes)) (h 0 box (omega arith))
    (each_driven P boxes (λ j default below. h (suc j) default (omega (arith, below))))

ordered_so : (net : Netlist) (boxes : List BlackBox) → StandInOrder net boxes →
    AreOrdered (page_circuit net) (map page_box boxes)
ordered_so net [] h = tt
ordered_so net (box ∷ boxes) h = (
  λ k d below. each_driven (λ out. Reaches (page_circuit net) (get_or box.ins k d / 2) (out / 2) → ⊥) (box ∷ boxes)
      (λ j default less. All-weaker (λ out. ReadReaches net (get_or box.ins k d / 2) (out / 2) → ⊥)
      (λ out. Reaches (page_circuit net) (get_or box.ins k d / 2) (out / 2) → ⊥)
      (λ out none reach. none (page_reaches net reach)) (slice_index_or (box ∷ boxes) j default).outs
      (h 0 j default (omega arith) less k d below)),
  ordered_so net boxes (λ i j default least below. h (suc i) (suc j) default (omega (arith, least)) (omega (arith, below))),
)

-- a literal of a further input
abbrev HasInput : Netlist → Netlist → ℕ → Type 0
HasInput specification implementation out =
    Contains (map (λ v. 2 * v) (drop (length specification.inputs) implementation.inputs)) out

pub is_design : (specification implementation : Netlist) (boxes : List BlackBox) →
    IsLawfulDesign (design_with specification implementation boxes) → IsCircuit (page_circuit specification) →
    IsCircuit (page_circuit implementation) → IsDesign (page_design specification implementation boxes)
is_design specification implementation boxes lawful specified implemented = record {
  specification = specified;
  implementation = implemented;
  inputs = lawful.is_design.inputs;
  outputs = lawful.is_design.outputs;
  drives = All-same (HasInput specification implementation) (driven (map page_box boxes)) (read_driven boxes) (driven_same boxes)
      (All-weaker (IsFurtherInput (design_with specification implementation boxes)) (HasInput specification implementation)
      (drives_further specification implementation boxes) (read_driven boxes) lawful.boxes.further);
  once = subst (λ (outs : List ℕ). AllPairs (λ a b. a ≢ b) outs) (sym (driven_same boxes)) lawful.boxes.driven_once;
  each = λ k d below.
      let inputs = implementation.inputs in
      let n = length specification.inputs in
      let long = length-drop n inputs in
      let there : n + k < length inputs = omega (arith, below, long) in
      let at = get_or-drop n inputs k d ∙ get_or_default inputs (n + k) d 0 there in
      subst (λ v. Contains (driven (map page_box boxes)) (2 * v)) (sym at)
      (driven_there boxes (2 * slice_index inputs (n + k)) (lawful.all_driven (n + k) (omega arith) there));
  ordered = ordered_so implementation boxes lawful.boxes.ordered;
}
