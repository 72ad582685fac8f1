-- A comment begins on one line.
use Rattle.std.proofs.Common.{◌≡◌, ℕ, ◌+◌, ◌<◌, ◌==◌, Bool, true, false, cond, List, [], ◌∷◌, ◌++◌, length, Option, None, Some, refl, sym, ◌∙◌, ap, subst, arith}
use Rattle.aiger_text.specs.CommentLine.{IsBehindMark, IsCommentLine}
use Rattle.dq_text.specs.Line.{TextLine, extend_line, lines_from}

-- each line has fewer bytes behind it than the one before
abbrev Descend : ℕ → List TextLine → Type 0
Descend bound [] = Unit {0}
Descend bound (line ∷ lines) = (length line.behind < bound) × Descend (length line.behind) lines

lines_descend : (n : ℕ) (bytes : List ℕ) → Descend (length bytes) (lines_from n bytes)
lines_descend n [] = tt
lines_descend n (byte ∷ bytes) =
    by (byte == 10) (lines_descend (n + 1) bytes) (lines_descend n bytes)
  where
    extended : (lines : List TextLine) → Descend (length bytes) lines
        → Descend (length (byte ∷ bytes)) (extend_line byte n lines)
    extended [] all = (omega arith, tt)
    extended (line ∷ lines) all = (let low = all.0 in omega (arith, low), all.1)

    by : (b : Bool) → Descend (length bytes) (lines_from (n + 1) bytes) → Descend (length bytes) (lines_from n bytes)
        → Descend (length (byte ∷ bytes))
        (cond b (record { text = []; number = n; behind = bytes } ∷ lines_from (n + 1) bytes)
        (extend_line byte n (lines_from n bytes)))
    by true next same = (omega arith, next)
    by false next same = extended (lines_from n bytes) same

later_is_less : (bound : ℕ) (before : List TextLine) (line : TextLine) (after : List TextLine)
    → Descend bound (before ++ line ∷ after) → length line.behind < bound
later_is_less bound [] line after all = all.0
later_is_less bound (first ∷ before) line after all =
    let low = all.0 in
    let rest = later_is_less (length first.behind) before line after all.1 in omega (arith, low, rest)

head_same : (a b : TextLine) (tail_a tail_b : List TextLine) → (a ∷ tail_a) ≡ (b ∷ tail_b) → a ≡ b
head_same a b tail_a tail_b is = cc

tail_same : (a b : TextLine) (tail_a tail_b : List TextLine) → (a ∷ tail_a) ≡ (b ∷ tail_b) → tail_a ≡ tail_b
tail_same a b tail_a tail_b is = cc

-- lines with as many bytes behind them are one
same_line : (bound : ℕ) (xs ys : List TextLine) (a b : TextLine) (tail_a tail_b : List TextLine)
    → Descend bound (xs ++ a ∷ tail_a) → (xs ++ a ∷ tail_a) ≡ (ys ++ b ∷ tail_b)
    → length a.behind ≡ length b.behind → a ≡ b
same_line bound [] [] a b tail_a tail_b all is long = head_same a b tail_a tail_b is
same_line bound [] (y ∷ ys) a b tail_a tail_b all is long =
    let first : a ≡ y = head_same a y tail_a (ys ++ b ∷ tail_b) is in
    let low = later_is_less (length a.behind) ys b tail_b
    (subst (Descend (length a.behind)) (tail_same a y tail_a (ys ++ b ∷ tail_b) is) all.1) in
    absurd (omega (arith, low, long))
same_line bound (x ∷ xs) [] a b tail_a tail_b all is long =
    let first : x ≡ b = head_same x b (xs ++ a ∷ tail_a) tail_b is in
    let low = later_is_less (length x.behind) xs a tail_a all.1 in
    let same : length x.behind ≡ length b.behind = ap (λ (l : TextLine). length l.behind) first in
    absurd (omega (arith, low, long, same))
same_line bound (x ∷ xs) (y ∷ ys) a b tail_a tail_b all is long =
    same_line (length x.behind) xs ys a b tail_a tail_b all.1
    (tail_same x y (xs ++ a ∷ tail_a) (ys ++ b ∷ tail_b) is) long

one_mark : (text : List ℕ) (first : ℕ) (comment : List ℕ) (k l : ℕ) → IsBehindMark text first comment k
    → IsBehindMark text first comment l → k ≡ l
one_mark text first comment k l one two =
    let long : length one.mark.behind ≡ length two.mark.behind =
    ap (λ (bytes : List ℕ). length bytes) (sym one.comment_is ∙ two.comment_is) in
    let same = same_line (length text) one.before two.before one.mark two.mark one.after two.after
    (subst (Descend (length text)) one.lines (lines_descend first text)) (sym one.lines ∙ two.lines) long in
    one.line_is ∙ ap (λ (m : TextLine). m.number + 1) same ∙ sym two.line_is

pub one_comment_line : (text : List ℕ) (first : ℕ) (comment : Option (List ℕ)) (k l : Option ℕ)
    → IsCommentLine text first comment k → IsCommentLine text first comment l → k ≡ l
one_comment_line text first None None None one two = refl
one_comment_line text first None None (Some l) one two = absurd two
one_comment_line text first None (Some k) l one two = absurd one
one_comment_line text first (Some comment) None l one two = absurd one
one_comment_line text first (Some comment) (Some k) None one two = absurd two
one_comment_line text first (Some comment) (Some k) (Some l) one two =
    ap (λ n. Some n) (one_mark text first comment k l one two)
