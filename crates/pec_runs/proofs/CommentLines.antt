-- A comment's lines have numbers that fit.
use Rattle.std.proofs.Common.{◌≡◌, ℕ, ◌+◌, ◌<◌, ◌≤◌, ◌^◌, ◌==◌, Bool, true, false, cond, List, [], ◌∷◌, ◌++◌, length, Option, None, Some, ap, subst, arith}
use Rattle.std.specs.List.{AllByRecursion}
use Rattle.aiger_text.specs.CommentLine.{IsBehindMark, IsCommentLine}
use Rattle.aiger_text.specs.declared.files.ReadCircuit.{ReadCircuit}
use Rattle.dq_text.specs.Line.{TextLine, extend_line, lines_from}
use Rattle.dq_text.proofs.TokenLines.{line_head}
use Rattle.pec_front.specs.Reading.{IsNumbered, CanNumber}
use Rattle.pec_runs.specs.DesignFiles.{max_circuit}

-- the first line has the number that lines begin with
abbrev Begins : ℕ → List TextLine → Type 0
Begins n [] = Unit {0}
Begins n (line ∷ lines) = line.number ≡ n

-- a line's number, and what is behind it
abbrev Fits : ℕ → TextLine → Type 0
Fits bound line = line.number + length line.behind ≤ bound

lines-fit : (n : ℕ) (bytes : List ℕ) (bound : ℕ) → n + length bytes ≤ bound
    → AllByRecursion (Fits bound) (lines_from n bytes)
lines-fit n [] bound low = tt
lines-fit n (byte ∷ bytes) bound low =
    by (byte == 10) (lines-fit (n + 1) bytes bound (omega (arith, low)))
    (lines-fit n bytes bound (omega (arith, low))) (line_head n bytes)
  where
    extended : (lines : List TextLine) → AllByRecursion (Fits bound) lines → Begins n lines
        → AllByRecursion (Fits bound) (extend_line byte n lines)
    extended [] all head = (omega (arith, low), tt)
    extended (line ∷ lines) all head = (let a = all.0 in omega (arith, a, head), all.1)

    by : (b : Bool) → AllByRecursion (Fits bound) (lines_from (n + 1) bytes)
        → AllByRecursion (Fits bound) (lines_from n bytes) → Begins n (lines_from n bytes)
        → AllByRecursion (Fits bound)
        (cond b (record { text = []; number = n; behind = bytes } ∷ lines_from (n + 1) bytes)
        (extend_line byte n (lines_from n bytes)))
    by true next same head = (omega (arith, low), next)
    by false next same head = extended (lines_from n bytes) same head

right-part : (P : TextLine → Type 0) (xs ys : List TextLine) → AllByRecursion P (xs ++ ys) → AllByRecursion P ys
right-part P [] ys all = all
right-part P (x ∷ xs) ys all = right-part P xs ys all.1

comment-fits : (text comment : List ℕ) (line : ℕ) → length text ≤ max_circuit → IsBehindMark text 1 comment line
    → line + length comment < 2 ^ 62
comment-fits text comment line short b =
    let bound = 1 + length text in
    let at = (right-part (Fits bound) b.before (b.mark ∷ b.after)
    (subst (AllByRecursion (Fits bound)) b.lines (lines-fit 1 text bound (omega arith)))).0 in
    let long : length comment ≡ length b.mark.behind = ap (λ (bytes : List ℕ). length bytes) b.comment_is in
    let number = b.line_is in
    omega (arith, at, long, number, short)

numbered : (text : List ℕ) → length text ≤ max_circuit → (comment : Option (List ℕ)) (line : Option ℕ)
    → IsCommentLine text 1 comment line → IsNumbered comment line
numbered text short None None is = tt
numbered text short (Some comment) (Some line) is = comment-fits text comment line short is
numbered text short (Some comment) None is = absurd is
numbered text short None (Some line) is = absurd is

pub can-number : (text : List ℕ) (imp : ReadCircuit) → length text ≤ max_circuit
    → IsCommentLine text 1 imp.file.comment imp.comment_line → CanNumber imp 1
can-number text imp short is = (omega arith, numbered text short imp.file.comment imp.comment_line is)
