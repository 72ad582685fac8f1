-- Boxes that stand in order fill every row.
use Rattle.std.proofs.Common.{◌≡◌, ◌≢◌, ℕ, zero, suc, ◌+◌, ◌*◌, ◌<◌, ◌==◌, Bool, true, false, cond, inl, inr, List, [], ◌∷◌, map, length, get_or, refl, sym, ◌∙◌, ap, subst, arith, length-append}
use Rattle.std.specs.List.{All, AllPairs, Contains, list_any}
use Rattle.std.proofs.Math.ListN.{get_or-append}
use Rattle.std.proofs.lemmas.Bool.{true≢false, eqb-true, eq-eqb, or_cases, or_parts, cond-true, cond-false}
use Rattle.std.proofs.lemmas.List.{get_or_default, get_or-append-add}
use Rattle.std.proofs.lemmas.List.Elements.{All-contains, Contains-append_left, Contains-append_right}
use Rattle.list_laws.proofs.Members.{in_one_part, contained_at}
use Rattle.list_laws.proofs.Quantified.{right-distinct}
use Rattle.circuit_plain.specs.Netlist.{Netlist, literal_bit, literal_variable}
use Rattle.circuit_plain.specs.Ground.{IsGrounded}
use Rattle.circuit_plain.specs.Reach.{Reaches}
use Rattle.circuit_plain.specs.Value.{ValuesAreUnique, GroundedHaveValues, ValuesFollowReach}
use Rattle.pec_front.specs.Boxes.{BlackBox, BoxFunctions, bits_read, driven, IsFurtherInput, StandInOrder, AreFilled, signals, inputs_of}
use Rattle.pec_front.specs.Rows.{BoxesExtendEveryRow}
use Rattle.pec_front.proofs.Circuits.{same-bits}
use Rattle.pec_front.proofs.Values.{Ground, value_in, has-value, valuation, contained, any-contained}

-- some box drives the literal
abbrev pub drives : List BlackBox → ℕ → Bool
drives boxes out = list_any (λ box. list_any (λ o. o == out) box.outs) boxes

pub bits-agree : (m n : ℕ → Bool) (ls : List ℕ) → All (λ l. m (literal_variable l) ≡ n (literal_variable l)) ls
    → map (literal_bit m) ls ≡ map (literal_bit n) ls
bits-agree m n [] h = refl
bits-agree m n (l ∷ ls) h =
    ap (λ b. b ∷ map (literal_bit m) ls) (same-bits m n l (h 0 0 (omega arith)))
    ∙ ap (λ bs. literal_bit n l ∷ bs) (bits-agree m n ls (λ k d below. h (suc k) d (omega (arith, below))))

pub drives-contained : (boxes : List BlackBox) (out : ℕ) → drives boxes out ≡ true → Contains (driven boxes) out
drives-contained [] out h = absurd (true≢false (sym h))
drives-contained (box ∷ boxes) out h =
    elim (or_cases (list_any (λ o. o == out) box.outs) (drives boxes out) h) [
      | inl here ↦
          let r = contained (λ o. o == out) box.outs here in
          Contains-append_left box.outs (driven boxes) out
          (subst (λ (n : ℕ). Contains box.outs n) (eqb-true r.0 out r.2) r.1)
      | inr later ↦ Contains-append_right box.outs (driven boxes) out (drives-contained boxes out later)
    ]

-- what a box reads reaches nothing that the boxes from it on drive
pub reaches-none : (net : Netlist) (box : BlackBox) (boxes rest : List BlackBox)
    → ((j : ℕ) (d : BlackBox) → j < length rest
    → All (λ l. All (λ out. ¬ Reaches net (literal_variable l) (literal_variable out)) (get_or rest j d).outs)
    box.ins) →
    (out : ℕ) → drives rest out ≡ true → All (λ l. ¬ Reaches net (literal_variable l) (literal_variable out)) box.ins
reaches-none net box boxes [] each out h = absurd (true≢false (sym h))
reaches-none net box boxes (b ∷ rest) each out h =
    elim (or_cases (list_any (λ o. o == out) b.outs) (drives rest out) h) [
      | inl here ↦ λ k d below.
          let r = contained (λ o. o == out) b.outs here in
          let l = get_or box.ins k d in
          All-contains (λ o. ¬ Reaches net (literal_variable l) (literal_variable o)) b.outs out
          (each 0 b (omega arith) k d below)
          (subst (λ (n : ℕ). Contains b.outs n) (eqb-true r.0 out r.2) r.1)
      | inr later ↦ reaches-none net box boxes rest (λ j d below. each (suc j) d (omega (arith, below))) out later
    ]

-- bits that fill the boxes and are as before where none of them drives an input
record Filling (w : Ground) (h : BoxFunctions) (boxes : List BlackBox) (bits : ℕ → Bool) : Type 0 where
  after : ℕ → Bool
  others : (i : ℕ) → drives boxes (2 * get_or w.net.inputs i 0) ≡ false → after i ≡ bits i
  filled : (box : BlackBox) → Contains boxes box → (out : ℕ) → Contains box.outs out → (i : ℕ) → out
      ≡ 2 * get_or w.net.inputs i 0
      → after i ≡ h out (bits_read (value_in w after) box)

-- the bits with those that a box gives
abbrev given : Ground → BoxFunctions → BlackBox → (ℕ → Bool) → ℕ → Bool
given w h box bits i =
    cond (list_any (λ o. o == 2 * get_or w.net.inputs i 0) box.outs)
    (h (2 * get_or w.net.inputs i 0) (bits_read (value_in w bits) box)) (bits i)

grow : (w : Ground) (h : BoxFunctions) (box : BlackBox) (rest : List BlackBox) (bits : ℕ → Bool)
    → AllPairs (λ a b. a ≢ b) (driven (box ∷ rest)) → StandInOrder w.net (box ∷ rest) →
    All (λ l. IsGrounded w.net (literal_variable l)) (signals (box ∷ rest)) → Filling w h rest (given w h box bits)
    → Filling w h (box ∷ rest) bits
grow w h box rest bits once ordered ground later = record {
  after = later.after;
  others = λ i e.
      let two = or_parts (list_any (λ o. o == 2 * get_or inputs i 0) box.outs) (drives rest (2 * get_or inputs i 0))
      e in
      later.others i two.1 ∙ cond-false (list_any (λ o. o == 2 * get_or inputs i 0) box.outs) _ (bits i) two.0;
  filled = filled;
}
  where
    inputs : List ℕ
    inputs = w.net.inputs

    unchanged : (i : ℕ) → drives (box ∷ rest) (2 * get_or inputs i 0) ≡ false → bits i ≡ later.after i
    unchanged i e =
        let two = or_parts (list_any (λ o. o == 2 * get_or inputs i 0) box.outs) (drives rest (2 * get_or inputs i 0))
        e in
        sym (later.others i two.1 ∙ cond-false (list_any (λ o. o == 2 * get_or inputs i 0) box.outs) _ (bits i) two.0)

    each-same : All (λ l. value_in w bits (literal_variable l) ≡ value_in w later.after (literal_variable l)) box.ins
    each-same k d below =
        let l = get_or box.ins k d in
        let v = literal_variable l in
        let long = length-append box.ins (signals rest) in
        let stands : IsGrounded w.net v =
        subst (λ (n : ℕ). IsGrounded w.net (literal_variable n)) (get_or-append box.ins (signals rest) d k below)
        (ground k d (omega (arith, below, long))) in
        let kept = w.follow w.net bits later.after v (value_in w bits v)
        (λ i inside reach. by (drives (box ∷ rest) (2 * get_or inputs i 0)) i refl reach) (has-value w bits v stands) in
        w.unique w.net later.after v (value_in w bits v) (value_in w later.after v) w.is kept
        (has-value w later.after v stands)
      where
        by : (c : Bool) (j : ℕ) → drives (box ∷ rest) (2 * get_or inputs j 0) ≡ c
            → Reaches w.net (literal_variable (get_or box.ins k d)) (get_or inputs j 0) → bits j ≡ later.after j
        by false j e reach = unchanged j e
        by true j e reach =
            let half : get_or inputs j 0 ≡ literal_variable (2 * get_or inputs j 0) = omega arith in
            absurd (reaches-none w.net box (box ∷ rest) (box ∷ rest)
            (λ n dd under. ordered 0 n dd (omega arith) under) (2 * get_or inputs j 0) e k d below
            (subst (λ (x : ℕ). Reaches w.net (literal_variable (get_or box.ins k d)) x) half reach))

    same-reads : bits_read (value_in w bits) box ≡ bits_read (value_in w later.after) box
    same-reads = bits-agree (value_in w bits) (value_in w later.after) box.ins each-same

    head-filled : (out : ℕ) → Contains box.outs out → (i : ℕ) → out ≡ 2 * get_or inputs i 0 → later.after i
        ≡ h out (bits_read (value_in w later.after) box)
    head-filled out inside i e =
        let two = 2 * get_or inputs i 0 in
        let found : list_any (λ o. o == two) box.outs ≡ true = any-contained (λ o. o == two) box.outs inside.0 out
        inside.1 inside.2 (eq-eqb out two e) in
        later.others i (none (drives rest two) refl)
        ∙ cond-true (list_any (λ o. o == two) box.outs) (h two (bits_read (value_in w bits) box)) (bits i) found
        ∙ ap (λ n. h n (bits_read (value_in w bits) box)) (sym e)
        ∙ ap (h out) same-reads
      where
        none : (b : Bool) → drives rest (2 * get_or inputs i 0) ≡ b → drives rest (2 * get_or inputs i 0) ≡ false
        none false f = f
        none true f =
            absurd (in_one_part box.outs (driven rest) out once inside
            (subst (λ (n : ℕ). Contains (driven rest) n) (sym e) (drives-contained rest (2 * get_or inputs i 0) f)))

    filled : (one : BlackBox) → Contains (box ∷ rest) one → (out : ℕ) → Contains one.outs out → (i : ℕ) → out
        ≡ 2 * get_or inputs i 0
        → later.after i ≡ h out (bits_read (value_in w later.after) one)
    filled one (zero, below, is) out inside i e =
        head-filled out (subst (λ (b : BlackBox). Contains b.outs out) (sym is) inside) i e
        ∙ ap (λ (b : BlackBox). h out (bits_read (value_in w later.after) b)) is
    filled one (suc k, below, is) out inside i e = later.filled one (k, omega (arith, below), is) out inside i e

fills : (w : Ground) (h : BoxFunctions) (boxes : List BlackBox) (bits : ℕ → Bool)
    → AllPairs (λ a b. a ≢ b) (driven boxes) → StandInOrder w.net boxes →
    All (λ l. IsGrounded w.net (literal_variable l)) (signals boxes) → Filling w h boxes bits
fills w h [] bits once ordered ground = record {
  after = bits;
  others = λ i e. refl;
  filled = λ box inside. absurd (let below = inside.1 in omega (arith, below));
}
fills w h (box ∷ rest) bits once ordered ground = grow w h box rest bits once ordered ground
    (fills w h rest (given w h box bits) (right-distinct box.outs (driven rest) once)
    (λ i j d less below. ordered (suc i) (suc j) d (omega (arith, less)) (omega (arith, below)))
    (λ k d below.
    let long = length-append box.ins (signals rest) in
    subst (λ (l : ℕ). IsGrounded w.net (literal_variable l)) (get_or-append-add box.ins (signals rest) k d)
    (ground (length box.ins + k) d (omega (arith, below, long)))))

pub drives-box : (boxes : List BlackBox) (box : BlackBox) (out : ℕ) → Contains boxes box → Contains box.outs out
    → Contains (driven boxes) out
drives-box [] box out (k, below, e) inside = absurd (omega (arith, below))
drives-box (b ∷ boxes) box out (zero, below, e) inside = Contains-append_left b.outs (driven boxes) out
    (subst (λ (z : BlackBox). Contains z.outs out) (sym e) inside)
drives-box (b ∷ boxes) box out (suc k, below, e) inside = Contains-append_right b.outs (driven boxes) out
    (drives-box boxes box out (k, omega (arith, below), e) inside)

pub extend : GroundedHaveValues → ValuesAreUnique → ValuesFollowReach → BoxesExtendEveryRow
extend grounded unique follow d h row keeps acyclic boxes =
    record {
      bits = fill.after;
      ms = value_in ws fill.after;
      mi = value_in wi fill.after;
      same = kept;
      specified = valuation ws fill.after;
      implemented = valuation wi fill.after;
      filled = filled;
    }
  where
    ws : Ground
    ws = record {
      net = d.specification;
      is = keeps.specification;
      gates = acyclic.specification;
      grounded = grounded;
      unique = unique;
      follow = follow;
    }

    wi : Ground
    wi = record {
      net = d.implementation;
      is = keeps.implementation;
      gates = acyclic.implementation;
      grounded =
          grounded;
      unique = unique;
      follow = follow;
    }

    inputs : List ℕ
    inputs = d.implementation.inputs

    fill : Filling wi h d.boxes row
    fill = fills wi h d.boxes row boxes.driven_once boxes.ordered (λ k e below.
        subst (λ (l : ℕ). IsGrounded d.implementation (literal_variable l))
        (get_or_default (signals d.boxes) k 0 e below) (keeps.signals_stand k below))

    kept : (i : ℕ) → i < inputs_of d → fill.after i ≡ row i
    kept i early = fill.others i (by (drives d.boxes (2 * get_or inputs i 0)) refl)
      where
        by : (b : Bool) → drives d.boxes (2 * get_or inputs i 0) ≡ b → drives d.boxes (2 * get_or inputs i 0) ≡ false
        by false e = e
        by true e =
            let two = 2 * get_or inputs i 0 in
            let further : IsFurtherInput d two = All-contains (IsFurtherInput d) (driven d.boxes) two boxes.further
            (drives-contained d.boxes two e) in
            let same : get_or inputs i 0 ≡ get_or inputs further.0 0 = (let t = further.3 in omega (arith, t)) in
            absurd (keeps.implementation.inputs_once i further.0 0 (let low = further.1 in omega (arith, low, early))
            further.2 same)

    filled : AreFilled d.boxes h (value_in wi fill.after)
    filled k e below j f under =
        let box = get_or d.boxes k e in
        let out = get_or box.outs j f in
        let in-boxes : Contains d.boxes box = contained_at d.boxes k e below in
        let in-box : Contains box.outs out = contained_at box.outs j f under in
        let further : IsFurtherInput d out = All-contains (IsFurtherInput d) (driven d.boxes) out boxes.further
        (drives-box d.boxes box out in-boxes in-box) in
        let i = further.0 in
        let half : literal_variable out ≡ get_or inputs i 0 = (let t = further.3 in omega (arith, t)) in
        ap (value_in wi fill.after) half ∙ (valuation wi fill.after).inputs i further.2
        ∙ fill.filled box in-boxes out in-box i further.3
