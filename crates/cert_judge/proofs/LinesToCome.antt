-- The first line of the bytes to come, and the line ends in them.
use Rattle.std.proofs.Common.{◌≡◌, ◌≢◌, ℕ, ◌+◌, ◌==◌, Bool, true, false, cond, List, [], ◌∷◌, ◌++◌, length, refl, sym, ◌∙◌, ap, subst, arith, append_assoc, append-nil, length-append}
use Rattle.std.specs.List.{filter}
use Rattle.std.proofs.lemmas.Bool.{ne_eqb}
use Rattle.std.proofs.lemmas.List.Elements.{All-head, All-tail, filter-append}
use Rattle.dq_text.specs.Line.{TextLine, lines_from}
use Rattle.aig_binary.proofs.CutLines.{before_feed, last_line}
use Rattle.cert_judge.specs.Judgement.{line_ends, comment_line}
use Rattle.cert_judge.specs.Phases.{line_end, HasNoEnd, IsLastUnless}

abbrev NoFeed : ℕ → Type 0
NoFeed byte = byte ≢ 10

abbrev pub line_of : List ℕ → ℕ → List ℕ → TextLine
line_of text number behind = record { text = text; number = number; behind = behind }

pub first_is : (ended : Bool) (number : ℕ) (text behind : List ℕ) → HasNoEnd text → IsLastUnless ended text behind →
    lines_from number (text ++ (line_end ended ++ behind))
    ≡ line_of text number behind ∷ lines_from (number + 1) behind
first_is true number text behind free last = before_feed number text behind free
first_is false number text behind free last =
    subst (λ b. lines_from number (text ++ b) ≡ line_of text number b ∷ lines_from (number + 1) b) (sym last.1)
    (ap (lines_from number) (append-nil text) ∙ last_line number text free last.0)

-- line ends
pub ends_both : (before behind : List ℕ) → line_ends (before ++ behind) ≡ line_ends before + line_ends behind
ends_both before behind = search (arith, filter-append, length-append)

pub no_ends : (text : List ℕ) → HasNoEnd text → line_ends text ≡ 0
no_ends [] free = refl
no_ends (byte ∷ text) free =
    ap (λ b. length (cond b (byte ∷ filter (λ byte. byte == 10) text) (filter (λ byte. byte == 10) text)))
    (ne_eqb byte 10 (All-head NoFeed byte text free))
    ∙ no_ends text (All-tail NoFeed byte text free)

pub ends_with_line : (text behind : List ℕ) → HasNoEnd text →
    line_ends (text ++ (10 ∷ behind)) ≡ 1 + line_ends behind
ends_with_line text behind free = search (arith, ends_both, no_ends)

-- a comment's line is counted from any line before it
pub same_comment_line : (number : ℕ) (text before comment : List ℕ) → HasNoEnd text →
    comment_line (number + 1) (line_ends (before ++ comment)) comment
    ≡ comment_line number (line_ends (text ++ (10 ∷ (before ++ comment)))) comment
same_comment_line number text before comment free = search (arith, ends_both, ends_with_line)

-- one more line behind what came
pub one_more : (before text behind : List ℕ) → (before ++ (text ++ (10 ∷ []))) ++ behind
    ≡ before ++ (text ++ (10 ∷ behind))
one_more before text behind =
    append_assoc before (text ++ (10 ∷ [])) behind ∙ ap (λ b. before ++ b) (append_assoc text (10 ∷ []) behind)
