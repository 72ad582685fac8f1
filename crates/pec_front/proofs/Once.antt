-- Boxes that stand in order are filled in one way in each row.
use Rattle.std.proofs.Common.{◌≡◌, ℕ, zero, suc, ◌*◌, ◌<◌, ◌≤◌, ◌==◌, Bool, inl, inr, List, [], ◌∷◌, length, get_or, sym, ◌∙◌, ap, subst, arith}
use Rattle.std.specs.List.{Contains, list_any}
use Rattle.std.proofs.lemmas.Bool.{eqb-true, cases_lt}
use Rattle.std.proofs.lemmas.List.{get_or_default}
use Rattle.std.proofs.lemmas.List.Elements.{All-contains, Contains-append_left, Contains-append_right}
use Rattle.circuit_plain.specs.Netlist.{Netlist, literal_variable}
use Rattle.circuit_plain.specs.Ground.{IsGrounded}
use Rattle.circuit_plain.specs.Reach.{Reaches}
use Rattle.circuit_plain.specs.Value.{IsValuation, GroundedHaveValues, ValuesFollowReach, ValuationsAgree}
use Rattle.pec_front.specs.Boxes.{BlackBox, PartialDesign, BoxFunctions, BoxesFit, bits_read, AreBoxes, AreFilled, signals, IsDesign, AllDriven, inputs_of}
use Rattle.pec_front.specs.Rows.{FilledRow, OutputsAgree, BoxesExtendEveryRow, FitsByRows}
use Rattle.pec_front.proofs.Circuits.{same-bits}
use Rattle.pec_front.proofs.Values.{contained}
use Rattle.pec_front.proofs.Rows.{bits-agree}
use Rattle.list_laws.proofs.Members.{contained_at}

reads-box : (boxes : List BlackBox) (box : BlackBox) (l : ℕ) → Contains boxes box → Contains box.ins l
    → Contains (signals boxes) l
reads-box [] box l (k, below, e) inside = absurd (omega (arith, below))
reads-box (b ∷ boxes) box l (zero, below, e) inside = search (arith, Contains-append_left)
reads-box (b ∷ boxes) box l (suc k, below, e) inside = search (arith, Contains-append_right, (reads-box boxes box l))

-- a design with two fillings whose inputs have the same bits
pub record Twice : Type 0 where
  pub d : PartialDesign
  pub h : BoxFunctions
  pub keeps : IsDesign d
  pub boxes : AreBoxes d
  pub driven : AllDriven d
  pub grounded : GroundedHaveValues
  pub follow : ValuesFollowReach
  pub agree : ValuationsAgree
  pub bits : ℕ → Bool
  pub mi : ℕ → Bool
  pub left : IsValuation d.implementation bits mi
  pub left_filled : AreFilled d.boxes h mi
  pub others : ℕ → Bool
  pub ni : ℕ → Bool
  pub right : IsValuation d.implementation others ni
  pub right_filled : AreFilled d.boxes h ni
  pub same : (i : ℕ) → i < inputs_of d → bits i ≡ others i

-- a value is the same where the inputs that it reaches are
same-value : (g : GroundedHaveValues) (f : ValuesFollowReach) (a : ValuationsAgree) (net : Netlist)
    (bits others m n : ℕ → Bool) → IsValuation net bits m → IsValuation net others n → (v : ℕ) → IsGrounded net v →
    ((i : ℕ) → i < length net.inputs → Reaches net v (get_or net.inputs i 0) → bits i ≡ others i) → m v ≡ n v
same-value g f a net bits others m n left right v ground same =
    let value = g net bits v ground in
    a net bits m v value.0 left value.1
    ∙ sym (a net others n v value.0 right (f net bits others v value.0 same value.1))

-- what the first boxes drive has the same bits
abbrev Same : Twice → ℕ → Type 0
Same t k = (j : ℕ) (e : BlackBox) → j < k → j < length t.d.boxes → (out : ℕ) → Contains (get_or t.d.boxes j e).outs
    out → t.mi (literal_variable out) ≡ t.ni (literal_variable out)

-- an input has the same bit where no box from this one on drives it
input-same : (t : Twice) (k : ℕ) → Same t k → (i : ℕ) → i < length t.d.implementation.inputs →
    ((j : ℕ) (e : BlackBox) → k ≤ j → j < length t.d.boxes → ¬ Contains (get_or t.d.boxes j e).outs
    (2 * get_or t.d.implementation.inputs i 0)) → t.bits i ≡ t.others i
input-same t k earlier i below none =
    elim (cases_lt i (inputs_of t.d)) [
      | inl early ↦ t.same i early
      | inr late ↦
          let v = get_or t.d.implementation.inputs i 0 in
          let half : literal_variable (2 * v) ≡ v = omega arith in
          let box = contained (λ (b : BlackBox). list_any (λ o. o == 2 * v) b.outs) t.d.boxes (t.driven i late below) in
          let r = contained (λ o. o == 2 * v) box.0.outs box.2 in
          let inside : Contains (get_or t.d.boxes box.1.0 box.0).outs (2 * v) =
          subst (λ (b : BlackBox). Contains b.outs (2 * v)) (sym box.1.2)
          (subst (λ (n : ℕ). Contains box.0.outs n) (eqb-true r.0 (2 * v) r.2) r.1) in
          elim (cases_lt box.1.0 k) [
            | inl before ↦
                sym (t.left.inputs i below) ∙ ap t.mi (sym half)
                ∙ earlier box.1.0 box.0 before box.1.1 (2 * v) inside
                ∙ ap t.ni half ∙ t.right.inputs i below
            | inr after ↦ absurd (none box.1.0 box.0 after box.1.1 inside)
          ]
    ]

-- so has what the next box drives
box-same : (t : Twice) (k : ℕ) → Same t k → (e : BlackBox) → k < length t.d.boxes → (out : ℕ)
    → Contains (get_or t.d.boxes k e).outs out → t.mi (literal_variable out) ≡ t.ni (literal_variable out)
box-same t k earlier e below out inside =
    let box = get_or t.d.boxes k e in
    let in-boxes : Contains t.d.boxes box = contained_at t.d.boxes k e below in
    let reads : bits_read t.mi box ≡ bits_read t.ni box = bits-agree t.mi t.ni box.ins (λ n d under.
    let l = get_or box.ins n d in
    let c = reads-box t.d.boxes box l in-boxes (contained_at box.ins n d under) in
    let stands : IsGrounded t.d.implementation (literal_variable l) =
    subst (λ (x : ℕ). IsGrounded t.d.implementation (literal_variable x))
    (get_or_default (signals t.d.boxes) c.0 0 l c.1 ∙ c.2) (t.keeps.signals_stand c.0 c.1) in
    same-value t.grounded t.follow t.agree t.d.implementation t.bits t.others t.mi t.ni t.left t.right
    (literal_variable l) stands (λ i low reach.
    input-same t k earlier i low (λ j f after under-j driven-by.
    let v = get_or t.d.implementation.inputs i 0 in
    let half : v ≡ literal_variable (2 * v) = omega arith in
    let ordered = t.boxes.ordered k j e after under-j n d under in
    let first : get_or t.d.boxes j f ≡ get_or t.d.boxes j e = get_or_default t.d.boxes j f e under-j in
    All-contains (λ o. ¬ Reaches t.d.implementation (literal_variable l) (literal_variable o))
    (get_or t.d.boxes j e).outs (2 * v) ordered
    (subst (λ (b : BlackBox). Contains b.outs (2 * v)) first driven-by)
    (subst (λ (x : ℕ). Reaches t.d.implementation (literal_variable l) x) half reach)))) in
    let P : ℕ → Type 0 = λ o. t.mi (literal_variable o) ≡ t.h o (bits_read t.mi box) in
    let Q : ℕ → Type 0 = λ o. t.ni (literal_variable o) ≡ t.h o (bits_read t.ni box) in
    let one : P out = All-contains P box.outs out (t.left_filled k e below) inside in
    let two : Q out = All-contains Q box.outs out (t.right_filled k e below) inside in
    one ∙ ap (t.h out) reads ∙ sym two

boxes-same : (t : Twice) (k : ℕ) → Same t k
boxes-same t zero j e before below out inside = absurd (omega (arith, before))
boxes-same t (suc k) j e before below out inside =
    search (arith, (cases_lt j k), (boxes-same t k j e), (box-same t k (boxes-same t k) e), (boxes-same t k))

-- a row is filled in one way
pub filled-once : (t : Twice) (v : ℕ) → IsGrounded t.d.implementation v → t.mi v ≡ t.ni v
filled-once t v ground =
    same-value t.grounded t.follow t.agree t.d.implementation t.bits t.others t.mi t.ni t.left t.right v ground
    (λ i low reach.
    input-same t (length t.d.boxes) (boxes-same t (length t.d.boxes)) i low
    (λ j e after below inside. omega (arith, after, below)))

pub by-rows : BoxesExtendEveryRow → GroundedHaveValues → ValuesFollowReach → ValuationsAgree → FitsByRows
by-rows extend grounded follow agree d h keeps acyclic boxes driven = (there, back)
  where
    there : BoxesFit d h → (row : ℕ → Bool) → (r : FilledRow d h row) × OutputsAgree d r.ms r.mi
    there fit row =
        let r = extend d h row keeps acyclic boxes in
        (r, fit r.bits r.ms r.mi r.specified r.implemented r.filled)

    back : ((row : ℕ → Bool) → (r : FilledRow d h row) × OutputsAgree d r.ms r.mi) → BoxesFit d h
    back rows bits ms mi specified implemented filled o below =
        let r = (rows bits).0 in
        let t : Twice = record {
          d = d;
          h = h;
          keeps = keeps;
          boxes = boxes;
          driven = driven;
          grounded = grounded;
          follow = follow;
          agree = agree;
          bits = bits;
          mi = mi;
          left = implemented;
          left_filled = filled;
          others = r.bits;
          ni = r.mi;
          right = r.implemented;
          right_filled = r.filled;
          same = λ i early. sym (r.same i early);
        } in
        let many = keeps.outputs in
        let a = get_or d.specification.outputs o 0 in
        let b = get_or d.implementation.outputs o 0 in
        same-bits ms r.ms a
        (same-value grounded follow agree d.specification bits r.bits ms r.ms specified r.specified
        (literal_variable a) (keeps.specified_outputs o below)
        (λ i low reach. sym (r.same i low)))
        ∙ (rows bits).1 o below
        ∙ sym (same-bits mi r.mi b
        (filled-once t (literal_variable b) (keeps.implemented_outputs o (omega (arith, below, many)))))
