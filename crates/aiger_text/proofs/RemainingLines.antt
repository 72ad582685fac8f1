-- A line's fault is the reading's, and each line makes the rest shorter.
use Rattle.std.proofs.Common.{◌≡◌, ℕ, ◌+◌, ◌<◌, inl, inr, List, [], ◌∷◌, length, Result, Ok, Err, Some, refl, sym, ◌∙◌, ap, arith, subst, ◌++◌, append_assoc, length-append}
use Rattle.std.specs.Result.{IfOk}
use Rattle.dq_text.specs.Line.{TextLine, lines_from, IsFirstLine}
use Rattle.aiger_text.specs.CommentLine.{IsBehindMark, IsCommentLine}
use Rattle.aiger_text.specs.Scan.{Body, LineFault, read_body, IsAagReading}
use Rattle.aiger_text.specs.Steps.{line_of, TakesLine, StopsAt}
use Rattle.aiger_text.specs.declared.faults.AagStop.{AagStop}
use Rattle.aiger_text.specs.declared.faults.AagStop.TheVariants.{Memory as NoMemory}
use Rattle.aiger_text.specs.declared.faults.LineStop.{LineStop}
use Rattle.aiger_text.specs.declared.faults.LineStop.TheVariants.{Fault, Memory}
use Rattle.aiger_text.specs.declared.files.AagFile.{AagFile}
use Rattle.aiger_text.specs.declared.files.ReadCircuit.{ReadCircuit}

no_memory : (first : ℕ) (scanned : Result AagFile LineFault) → IsAagReading first scanned (Err NoMemory)
no_memory first (Ok file) = tt
no_memory first (Err fault) = tt

pub stopped : (first : ℕ) (scanned : Result AagFile LineFault) (old new : Body) (text behind : List ℕ) (number : ℕ)
    (lines : List TextLine)
    (stop : LineStop) (answer : AagStop) → scanned ≡ read_body old (line_of text number behind ∷ lines) number →
    TakesLine old text (Err stop) new → StopsAt number stop answer → IsAagReading first scanned (Err answer)
stopped first scanned old new text behind number lines (Fault name) answer same takes stops =
    let next : Body → Result AagFile LineFault = λ c. read_body c lines (number + 1) in
    let is : scanned ≡ Err (record { line = number; name = name }) = same ∙ takes number behind next in
    let Reads : Result AagFile LineFault → Type 0 = λ r. IsAagReading first r (Err answer) in
    let Answers : AagStop → Type 0 = λ a. IsAagReading first (Err (record { line = number; name = name })) (Err a) in
    subst Reads (sym is) (subst Answers (sym stops) refl)
stopped first scanned old new text behind number lines Memory answer same takes stops =
    let Answers : AagStop → Type 0 = λ a. IsAagReading first scanned (Err a) in
    subst Answers (sym stops) (no_memory first scanned)

pub shorter : (bytes text others : List ℕ) (number : ℕ) (line : TextLine) (lines : List TextLine) →
    IsFirstLine bytes text others →
    lines_from number bytes ≡ line ∷ lines → length others < length bytes
shorter [] text others number line lines first some = cc
shorter (byte ∷ bytes) text others number line lines first some =
    elim first.parts [
      | inl with_feed ↦ omega (arith, ap length with_feed, length-append text (10 ∷ others))
      | inr alone ↦ omega (arith, ap length alone.1)
    ]

-- one line more is read
pub one_more : (all before rest lines : List TextLine) (line : TextLine) → all ≡ before ++ lines → lines ≡ line ∷ rest →
    all ≡ (before ++ line ∷ []) ++ rest
one_more all before rest lines line so_far next =
    so_far ∙ ap (λ ls. before ++ ls) next ∙ sym (append_assoc before (line ∷ []) rest)

pub comment_stands : (result : Result ReadCircuit AagStop) (text : List ℕ) (first : ℕ) (comment : List ℕ) (line : ℕ) →
    IfOk result (λ r. r.file.comment ≡ Some comment) → IfOk result (λ r. r.comment_line ≡ Some line) →
    IsBehindMark text first comment line →
    IfOk result (λ r. IsCommentLine text first r.file.comment r.comment_line)
comment_stands (Ok r) text first comment line comment_is line_is stands = search arith
comment_stands (Err stop) text first comment line comment_is line_is stands = tt
