-- A line of the boxes' lines is read.
use Rattle.std.proofs.Common.{◌≡◌, ℕ, zero, suc, ◌+◌, ◌-◌, ◌<◌, not, List, ◌∷◌, Option, None, Some, Result, Ok, Err, sym, ◌∙◌, ap, subst, arith}
use Rattle.std.specs.List.{position}
use Rattle.dq_text.specs.Line.{TextLine, line_tokens}
use Rattle.pec_front.specs.BoxLine.{box_line}
use Rattle.pec_front.specs.Boxes.{BlackBox}
use Rattle.number_tables.specs.Numbers.{has_number}
use Rattle.pec_front.specs.Reading.{Refusal, with_box, read_boxes, unless_undriven, all_driven}
use Rattle.pec_front.specs.Steps.{KnowsDriven, IsListReading}
use Rattle.pec_front.specs.declared.box_lines.ReadBoxes.{ReadBoxes}
use Rattle.pec_front.specs.declared.faults.PecFault.TheVariants.{BoxMissing}
use Rattle.pec_front.specs.declared.faults.PecStop.{PecStop}
use Rattle.pec_front.specs.declared.faults.PecStop.TheVariants.{Refused}
use Rattle.pec_front.specs.declared.wires.Wires.{Wires}

pub line-taken : (wires : Wires) (left : ℕ) (boxes more : List BlackBox) (lines others : List TextLine)
    (line : TextLine) (number next : ℕ) → 0 < left → lines ≡ line ∷ others
    → with_box boxes (box_line wires (line_tokens line.text)) ≡ Ok more → next ≡ line.number + 1
    → read_boxes wires left boxes lines number ≡ read_boxes wires (left - 1) more others next
line-taken wires zero boxes more lines others line number next low is fits at = absurd (omega (arith, low))
line-taken wires (suc k) boxes more lines others line number next low is fits at = search arith

-- where the first further input that isn't driven is found
pub undriven-refused : (wires : Wires) (line : ℕ) (lines : Result (List BlackBox) Refusal) (read : ReadBoxes)
    → (lines ≡ Ok read.boxes.items) × KnowsDriven read → (found : Option ℕ)
    → found ≡ position (λ v. not (has_number read.driven v)) wires.further → (place : ℕ) → found ≡ Some place
    → (answer : PecStop) → answer ≡ Refused (line + place) BoxMissing
    → IsListReading (all_driven wires line lines) (Err answer)
undriven-refused wires line lines read is found searched place at answer answers =
    subst (λ a. IsListReading (all_driven wires line lines) (Err a)) (sym answers)
    (ap (all_driven wires line) is.0
    ∙ ap (unless_undriven line read.boxes.items)
    (ap (λ ds. position (λ v. not (has_number ds v)) wires.further) (sym is.1) ∙ sym searched ∙ at))

-- where none is
pub all-are-driven : (wires : Wires) (line : ℕ) (lines : Result (List BlackBox) Refusal) (read : ReadBoxes)
    → (lines ≡ Ok read.boxes.items) × KnowsDriven read → (found : Option ℕ)
    → found ≡ position (λ v. not (has_number read.driven v)) wires.further → found ≡ None
    → all_driven wires line lines ≡ Ok read.boxes.items
all-are-driven wires line lines read is found searched none =
    ap (all_driven wires line) is.0
    ∙ ap (unless_undriven line read.boxes.items)
    (ap (λ ds. position (λ v. not (has_number ds v)) wires.further) (sym is.1) ∙ sym searched ∙ none)
