-- The reading of boxes answers one thing.
use Rattle.std.proofs.Common.{◌≡◌, inl, inr, ℕ, Option, Some, List, Result, Ok, Err, sym, ◌∙◌, ap, subst, arith}
use Rattle.std.specs.List.{All, Contains}
use Rattle.std.specs.Prelude.{slice_index_or}
use Rattle.std.proofs.lemmas.Bool.{cases_order}
use Rattle.std.proofs.lemmas.List.{get_or_default}
use Rattle.std.proofs.lemmas.List.Elements.{All-contains}
use Rattle.circuit_plain.specs.Netlist.{Netlist, literal_variable}
use Rattle.circuit_plain.specs.Reach.{Reaches}
use Rattle.dq_text.specs.Line.{LineCursor}
use Rattle.pec_front.specs.Boxes.{BlackBox, PartialDesign, StandInOrder}
use Rattle.pec_front.specs.Reading.{Refusal, IsOutOfOrder, IsFirstOutOfOrder, IsOrderFault, IsReadingOf}
use Rattle.pec_front.specs.declared.faults.PecFault.{PecFault}
use Rattle.pec_front.specs.declared.faults.PecStop.TheVariants.{Refused}

-- boxes in order have none that is out of order
ordered : (net : Netlist) (boxes : List BlackBox) (place : ℕ) → StandInOrder net boxes
    → IsOutOfOrder net boxes place → ⊥
ordered net boxes place order out =
    let r = out.reaches in
    let d = r.default in
    let reads = subst (λ (box : BlackBox). Contains box.ins out.signal)
    (get_or_default boxes place out.default d out.in_range) out.reads in
    let outs = All-contains
    (λ l. All (λ o. ¬ Reaches net (literal_variable l) (literal_variable o)) (slice_index_or boxes r.box d).outs)
    (slice_index_or boxes place d).ins out.signal (order place r.box d r.behind r.in_range) reads in
    All-contains (λ o. ¬ Reaches net (literal_variable out.signal) (literal_variable o))
    (slice_index_or boxes r.box d).outs r.out outs r.drives r.reaches

one_place : (net : Netlist) (boxes : List BlackBox) (j k : ℕ) → IsFirstOutOfOrder net boxes j
    → IsFirstOutOfOrder net boxes k → j ≡ k
one_place net boxes j k one two =
    elim (cases_order j k) [
      | inl same ↦ same
      | inr (inl earlier) ↦ absurd (two.first j earlier one.is)
      | inr (inr later) ↦ absurd (one.first k later two.is)
    ]

one_start : (comment : Option LineCursor) (a b : LineCursor) → comment ≡ Some a → comment ≡ Some b → a ≡ b
one_start comment a b one two = let both : Some a ≡ Some b = sym one ∙ two in cc

one_order_line : (net : Netlist) (boxes : List BlackBox) (comment : Option LineCursor) (k l : ℕ)
    → IsOrderFault net boxes comment k → IsOrderFault net boxes comment l → k ≡ l
one_order_line net boxes comment k l one two =
    let place = one_place net boxes one.place two.place one.box two.box in
    let start : one.begins.number ≡ two.begins.number =
    ap (λ (c : LineCursor). c.number) (one_start comment one.begins two.begins one.is two.is) in
    let first = one.on_line in
    let second = two.on_line in
    omega (arith, place, start, first, second)

-- a refusal, by its line and name
pub record SameRefusal (k l : ℕ) (a b : PecFault) : Type 0 where
  pub line : k ≡ l
  pub name : a ≡ b

module _ (specification implementation : Netlist) (comment : Option LineCursor) where
  pub one_design_read : (boxes : Result (List BlackBox) Refusal) (d e : PartialDesign)
      → IsReadingOf specification implementation comment boxes (Ok d)
      → IsReadingOf specification implementation comment boxes (Ok e) → d ≡ e
  one_design_read (Ok boxes) d e one two = one.0 ∙ sym two.0
  one_design_read (Err refusal) d e one two = absurd one

  pub read_or_refused : (boxes : Result (List BlackBox) Refusal) (d : PartialDesign) (line : ℕ) (name : PecFault)
      → IsReadingOf specification implementation comment boxes (Ok d)
      → IsReadingOf specification implementation comment boxes (Err (Refused line name)) → ⊥
  read_or_refused (Ok boxes) d line name one two =
      ordered implementation boxes two.1.place one.1 two.1.box.is
  read_or_refused (Err refusal) d line name one two = one

  pub one_refusal_read : (boxes : Result (List BlackBox) Refusal) (k l : ℕ) (a b : PecFault)
      → IsReadingOf specification implementation comment boxes (Err (Refused k a))
      → IsReadingOf specification implementation comment boxes (Err (Refused l b)) → SameRefusal k l a b
  one_refusal_read (Ok boxes) k l a b one two = record {
    line = one_order_line implementation boxes comment k l one.1 two.1;
    name = one.0 ∙ sym two.0;
  }
  one_refusal_read (Err refusal) k l a b one two =
      let both : record { line = k; name = a } ≡ record { line = l; name = b } = sym one ∙ two in
      record {
        line = ap (λ (r : Refusal). r.line) both;
        name = ap (λ (r : Refusal). r.name) both;
      }
