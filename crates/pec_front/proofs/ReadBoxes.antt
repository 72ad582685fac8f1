-- Boxes that a comment states are admitted, and drive each further input once.
use Rattle.std.proofs.Common.{◌≡◌, ◌≢◌, ℕ, zero, suc, ◌+◌, nat_lt, Bool, true, false, cond, List, [], ◌∷◌, ◌++◌, map, length, get_or, Option, None, Some, Result, Ok, Err, refl, sym, ap, subst, arith, length-append, append_assoc}
use Rattle.std.specs.List.{All, AllPairs}
use Rattle.std.specs.Option.{option_and_then}
use Rattle.std.proofs.Math.ListN.{get_or-append}
use Rattle.std.proofs.Math.Seq.{get_or-append_seam}
use Rattle.std.proofs.lemmas.Bool.{true≢false, eq-eqb, or_parts, cases_lt}
use Rattle.std.proofs.lemmas.List.{get_or_default}
use Rattle.std.proofs.lemmas.List.Concat.{flat_map-append}
use Rattle.std.proofs.lemmas.List.Elements.{All-append, All-from_recursion, All-nil}
use Rattle.circuit_plain.specs.Netlist.{Netlist, literal_variable}
use Rattle.dq_text.specs.Line.{TextLine, LineCursor, line_tokens}
use Rattle.number_tables.specs.Numbers.{has_number}
use Rattle.pec_front.specs.BoxLine.{is_box, admitted, box_line, box_of, small_numbers}
use Rattle.pec_front.specs.Boxes.{BlackBox}
use Rattle.pec_front.specs.Reading.{Refusal, driven_inputs, repeats, with_box, go_on, read_boxes, behind_pec, read_lines, first_undriven, all_driven, comment_boxes}
use Rattle.pec_front.specs.Steps.{AreReadBoxes}
use Rattle.pec_front.specs.declared.faults.PecFault.{PecFault}
use Rattle.pec_front.specs.declared.faults.PecFault.TheVariants.{BoxTwice, BadBox}
use Rattle.pec_front.specs.declared.wires.Wires.{Wires}
use Rattle.pec_front.proofs.Values.{any-contained}

refusal-isn't-ok : {X E : Type 0} (e : E) (x : X) → Err e ≡ Ok x → ⊥
refusal-isn't-ok e x h = cc

abbrev given : (X E : Type 0) → X → Result X E
given X E x = Ok x

ok-is : (E : Type 0) (X : Type 0) (x y : X) → given X E x ≡ given X E y → x ≡ y
ok-is E X x y h = cc

-- of the boxes of the lines so far
pub record Good (wires : Wires) (boxes : List BlackBox) : Type 0 where
  pub admitted : All (λ box. is_box wires box ≡ true) boxes
  pub once : AllPairs (λ v w. v ≢ w) (driven_inputs boxes)

-- a number that isn't among distinct ones, behind them
once-more : (xs : List ℕ) (x : ℕ) → AllPairs (λ v w. v ≢ w) xs → has_number xs x ≡ false
    → AllPairs (λ v w. v ≢ w) (xs ++ x ∷ [])
once-more xs x once apart i j d less below =
    search (
      arith,
      (cases_lt j (length xs)),
      (get_or-append xs (x ∷ []) d i),
      (get_or-append xs (x ∷ []) d j),
      (get_or-append_seam xs x [] d),
      any-contained,
      (get_or_default xs i (get_or xs i d) d),
      (eq-eqb (get_or xs i d) x),
      true≢false,
      (length-append xs (x ∷ [])),
    )

nothing-more : (xs : List ℕ) → xs ++ [] ≡ xs
nothing-more [] = refl
nothing-more (x ∷ xs) = ap (λ ys. x ∷ ys) (nothing-more xs)

new-once : (before outs : List ℕ) → repeats before outs ≡ false → AllPairs (λ v w. v ≢ w) before
    → AllPairs (λ v w. v ≢ w) (before ++ map literal_variable outs)
new-once before [] none once = subst (AllPairs (λ v w. v ≢ w)) (sym (nothing-more before)) once
new-once before (out ∷ outs) none once =
    let x = literal_variable out in
    let parts = or_parts (has_number before x) (repeats (before ++ x ∷ []) outs) none in
    subst (AllPairs (λ v w. v ≢ w)) (append_assoc before (x ∷ []) (map literal_variable outs))
    (new-once (before ++ x ∷ []) outs parts.1 (once-more before x once parts.0))

map-behind : (xs ys : List ℕ) → map literal_variable (xs ++ ys) ≡ map literal_variable xs ++ map literal_variable ys
map-behind [] ys = refl
map-behind (x ∷ xs) ys = ap (λ zs. literal_variable x ∷ zs) (map-behind xs ys)

-- what one more box drives stands behind what the others drive
pub driven-more : (boxes : List BlackBox) (box : BlackBox)
    → driven_inputs (boxes ++ box ∷ []) ≡ driven_inputs boxes ++ map literal_variable box.outs
driven-more boxes box = search (arith, flat_map-append, map-behind, nothing-more)

with-box-good : (wires : Wires) (boxes more : List BlackBox) (found : Option BlackBox)
    → with_box boxes (admitted wires found) ≡ Ok more → Good wires boxes → Good wires more
with-box-good wires boxes more None h good = absurd (refusal-isn't-ok BadBox more h)
with-box-good wires boxes more (Some box) h good = by (is_box wires box) refl h
  where
    added : is_box wires box ≡ true → (r : Bool) → repeats (driven_inputs boxes) box.outs ≡ r
        → cond r (Err BoxTwice) (Ok (boxes ++ box ∷ [])) ≡ Ok more → Good wires more
    added fits true f g = absurd (refusal-isn't-ok BoxTwice more g)
    added fits false f g =
        subst (Good wires) (ok-is PecFault (List BlackBox) (boxes ++ box ∷ []) more g) (record {
          admitted = All-append (λ b. is_box wires b ≡ true) boxes (box ∷ []) good.admitted
              (All-from_recursion (λ b. is_box wires b ≡ true) (box ∷ []) (fits, tt));
          once = subst (AllPairs (λ v w. v ≢ w)) (sym (driven-more boxes box))
              (new-once (driven_inputs boxes) box.outs f good.once);
        })

    by : (b : Bool) → is_box wires box ≡ b → with_box boxes (cond b (Some box) None) ≡ Ok more → Good wires more
    by false e g = absurd (refusal-isn't-ok BadBox more g)
    by true e g = added e (repeats (driven_inputs boxes) box.outs) refl g

read-good : (wires : Wires) (count : ℕ) (boxes more : List BlackBox) (lines : List TextLine) (number : ℕ)
    → read_boxes wires count boxes lines number ≡ Ok more → Good wires boxes → Good wires more
read-good wires zero boxes more lines number h good = search (arith, ok-is)
read-good wires (suc count) boxes more [] number h good = absurd (refusal-isn't-ok _ more h)
read-good wires (suc count) boxes more (line ∷ lines) number h good =
    by (with_box boxes (box_line wires (line_tokens line.text))) refl h
    (λ others. read-good wires count others more lines (line.number + 1))
  where
    next : List BlackBox → Result (List BlackBox) Refusal
    next others = read_boxes wires count others lines (line.number + 1)

    by : (r : Result (List BlackBox) PecFault) → with_box boxes (box_line wires (line_tokens line.text)) ≡ r
        → go_on line.number r next ≡ Ok more
        → ((others : List BlackBox) → next others ≡ Ok more → Good wires others → Good wires more) → Good wires more
    by (Err name) e g on = absurd (refusal-isn't-ok _ more g)
    by (Ok others) e g on =
        on others g
        (with-box-good wires boxes others (option_and_then box_of (small_numbers (line_tokens line.text))) e good)

none-good : (wires : Wires) → Good wires []
none-good wires = search (arith, All-nil)

behind-good : (wires : Wires) (line : ℕ) (count : Option ℕ) (lines : List TextLine) (boxes : List BlackBox)
    → behind_pec wires line count lines ≡ Ok boxes → Good wires boxes
behind-good wires line None lines boxes h = absurd (refusal-isn't-ok _ boxes h)
behind-good wires line (Some count) lines boxes h = search (arith, nat_lt, refusal-isn't-ok, read-good, none-good)

lines-good : (wires : Wires) (lines : List TextLine) (number : ℕ) (boxes : List BlackBox)
    → read_lines wires lines number ≡ Ok boxes → Good wires boxes
lines-good wires [] number boxes h = absurd (refusal-isn't-ok _ boxes h)
lines-good wires (line ∷ lines) number boxes h = search (arith, behind-good)

driven-all : (wires : Wires) (line : ℕ) (r : Result (List BlackBox) Refusal) (boxes : List BlackBox)
    → all_driven wires line r ≡ Ok boxes → (r ≡ Ok boxes) × (first_undriven wires boxes ≡ None)
driven-all wires line (Err refusal) boxes h = absurd (refusal-isn't-ok refusal boxes h)
driven-all wires line (Ok others) boxes h = search (arith, refusal-isn't-ok, ok-is)

pub are-read : (specification implementation : Netlist) (comment : LineCursor) (first_input : ℕ)
    (boxes : List BlackBox) → comment_boxes specification implementation comment first_input ≡ Ok boxes
    → AreReadBoxes specification implementation boxes
are-read specification implementation comment first_input boxes h = search (arith, driven-all, lines-good)
