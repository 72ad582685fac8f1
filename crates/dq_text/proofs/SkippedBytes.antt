-- Bytes between tokens, passed in runs.
use Rattle.std.proofs.Common.{◌≡◌, ◌≢◌, ◌==◌, ◌||◌, ℕ, ◌+◌, ◌≤◌, ◌<◌, Bool, true, false, cond, List, [], ◌∷◌, ◌++◌, length, take, drop, ◌-◌, append-nil, refl, sym, ◌∙◌, ap, subst, arith, inl, inr, append_assoc, if◌then◌else◌}
use Rattle.std.specs.List.{All}
use Rattle.std.proofs.lemmas.Bool.{ne_eqb}
use Rattle.std.proofs.lemmas.List.{take_all, length-drop}
use Rattle.std.proofs.lemmas.List.Elements.{All-head, All-tail}
use Rattle.dq_text.specs.Bytes.{kind_of}
use Rattle.dq_text.specs.Line.{IsFirstLine}
use Rattle.dq_text.specs.Pieces.{SummarizedToken, ended, tokens_by, tokens_behind, line_behind, IsBehindLine, EndsComment, Skips}
use Rattle.dq_text.specs.Summary.{is_begun, no_bytes, grown}
use Rattle.dq_text.specs.Token.{is_in_token, place_after, line_after}
use Rattle.dq_text.specs.declared.bytes.ByteKind.{ByteKind}
use Rattle.dq_text.specs.declared.bytes.ByteKind.TheVariants.{Blank, LineFeed, LetterC, Other}
use Rattle.dq_text.specs.declared.cursors.LinePlace.{LinePlace}
use Rattle.dq_text.specs.declared.cursors.LinePlace.TheVariants.{LineStart, InLine, InComment}
use Rattle.dq_text.specs.declared.summaries.TokenSummary.{TokenSummary}
use Rattle.dq_text.specs.declared.token_pieces.TokenPieces.{TokenPieces}
use Rattle.dq_text.proofs.PiecedLines.{unless_feed}
use Rattle.dq_text.proofs.PiecedTokens.{first_grown, none_begun}

abbrev Next : Type 0
Next = TokenSummary → LinePlace → ℕ → List SummarizedToken

-- In a comment.

abbrev NoFeed : ℕ → Type 0
NoFeed byte = byte ≢ 10

abbrev kind_by : ℕ → Bool → ByteKind
kind_by byte feed = if byte == 32 || (byte == 9 || byte == 13) then Blank else if feed then LineFeed else if byte == 99
    then LetterC else Other

comment_by : (blank letter : Bool) (line byte : ℕ) (next : Next) →
    tokens_by (if blank then Blank else if letter then LetterC else Other) no_bytes InComment line byte next
    ≡ next no_bytes InComment line
comment_by true letter line byte next = refl
comment_by false true line byte next = refl
comment_by false false line byte next = refl

comment_step : (line byte : ℕ) (next : Next) → NoFeed byte →
    tokens_by (kind_of byte) no_bytes InComment line byte next ≡ next no_bytes InComment line
comment_step line byte next free =
    ap (λ b. tokens_by (kind_by byte b) no_bytes InComment line byte next) (ne_eqb byte 10 free)
    ∙ comment_by (byte == 32 || (byte == 9 || byte == 13)) (byte == 99) line byte next

comment_line : (line byte : ℕ) → NoFeed byte → line_after (kind_of byte) line ≡ line
comment_line line byte free =
    ap (λ b. line_after (kind_by byte b) line) (ne_eqb byte 10 free)
    ∙ unless_feed (byte == 32 || (byte == 9 || byte == 13)) (byte == 99) line

comment_tokens : (before rest : List ℕ) (line : ℕ) → All NoFeed before →
    tokens_behind no_bytes InComment line (before ++ rest) ≡ tokens_behind no_bytes InComment line rest
comment_tokens [] rest line free = refl
comment_tokens (byte ∷ before) rest line free =
    comment_step line byte (λ t p l. tokens_behind t p l (before ++ rest)) (All-head NoFeed byte before free)
    ∙ comment_tokens before rest line (All-tail NoFeed byte before free)

comment_lines : (before rest : List ℕ) (line : ℕ) → All NoFeed before →
    line_behind line (before ++ rest) ≡ line_behind line rest
comment_lines [] rest line free = refl
comment_lines (byte ∷ before) rest line free =
    ap (λ l. line_behind l (before ++ rest)) (comment_line line byte (All-head NoFeed byte before free))
    ∙ comment_lines before rest line (All-tail NoFeed byte before free)

dropped : (xs ys : List ℕ) → drop (length xs) (xs ++ ys) ≡ ys
dropped [] ys = refl
dropped (x ∷ xs) ys = dropped xs ys

behind_line : (bytes text rest : List ℕ) → bytes ≡ text ++ rest → All NoFeed text →
    IsBehindLine bytes (drop (length text) bytes)
behind_line bytes text rest parts free = record {
  before = text;
  parts = parts ∙ ap (λ ys. text ++ ys) (sym (ap (drop (length text)) parts ∙ dropped text rest));
  one_line = free;
}

-- the bytes from a line's LF on are behind it
pub line_cut : (bytes text others : List ℕ) → IsFirstLine bytes text others →
    IsBehindLine bytes (take (length bytes - length text) (drop (length text) bytes))
line_cut bytes text others first =
    let rest = drop (length text) bytes in
    let short = length-drop (length text) bytes in
    let whole : take (length bytes - length text) rest ≡ rest =
    take_all (length bytes - length text) rest (omega (arith, short)) in
    let behind : IsBehindLine bytes rest =
    elim first.parts [
      | inl with_feed ↦ behind_line bytes text (10 ∷ others) with_feed first.one_line
      | inr alone ↦ behind_line bytes text [] (alone.0 ∙ sym (append-nil text)) first.one_line
    ] in
    subst (λ xs. IsBehindLine bytes xs) (sym whole) behind

comment_end_tokens : (place : LinePlace) (line : ℕ) (bytes left more : List ℕ) → EndsComment place bytes left →
    tokens_behind no_bytes place line (bytes ++ more) ≡ tokens_behind no_bytes place line (left ++ more)
comment_end_tokens InComment line bytes left more ends =
    ap (λ xs. tokens_behind no_bytes InComment line (xs ++ more)) ends.parts
    ∙ ap (tokens_behind no_bytes InComment line) (append_assoc ends.before left more)
    ∙ comment_tokens ends.before (left ++ more) line ends.one_line
comment_end_tokens LineStart line bytes left more ends = ap (λ xs. tokens_behind no_bytes LineStart line (xs ++ more))
    (sym ends)
comment_end_tokens InLine line bytes left more ends = ap (λ xs. tokens_behind no_bytes InLine line (xs ++ more))
    (sym ends)

comment_end_line : (place : LinePlace) (line : ℕ) (bytes left more : List ℕ) → EndsComment place bytes left →
    line_behind line (bytes ++ more) ≡ line_behind line (left ++ more)
comment_end_line InComment line bytes left more ends =
    ap (λ xs. line_behind line (xs ++ more)) ends.parts
    ∙ ap (line_behind line) (append_assoc ends.before left more)
    ∙ comment_lines ends.before (left ++ more) line ends.one_line
comment_end_line LineStart line bytes left more ends = ap (λ xs. line_behind line (xs ++ more)) (sym ends)
comment_end_line InLine line bytes left more ends = ap (λ xs. line_behind line (xs ++ more)) (sym ends)

-- Between tokens.

-- what was kept before a token's first byte doesn't matter
kept_nothing : (token : TokenSummary) (place : LinePlace) (line : ℕ) (bytes : List ℕ) → is_begun token.head ≡ false →
    tokens_behind token place line bytes ≡ tokens_behind no_bytes place line bytes
kept_nothing token place line [] fresh = ap (λ b. cond b (record { summary = token; line = line } ∷ []) []) fresh
kept_nothing token place line (byte ∷ bytes) fresh =
    let p = place_after (kind_of byte) place in
    let l = line_after (kind_of byte) line in
    let rest = tokens_behind no_bytes p l bytes in
    ap (λ t. cond (is_in_token (kind_of byte) place) (tokens_behind t p l bytes) (ended token line rest))
    (first_grown token byte (none_begun token.head fresh))
    ∙ ap (λ b. cond (is_in_token (kind_of byte) place) (tokens_behind (grown no_bytes byte) p l bytes)
    (cond b (record { summary = token; line = line } ∷ rest) rest)) fresh

between_step : (place : LinePlace) (line byte : ℕ) (xs : List ℕ) → is_in_token (kind_of byte) place ≡ false →
    tokens_behind no_bytes place line (byte ∷ xs) ≡ tokens_behind no_bytes (place_after (kind_of byte) place)
    (line_after (kind_of byte) line) xs
between_step place line byte xs between =
    let p = place_after (kind_of byte) place in
    let l = line_after (kind_of byte) line in
    ap (λ b. cond b (tokens_behind (grown no_bytes byte) p l xs) (tokens_behind no_bytes p l xs)) between

pub passed : (old new : TokenPieces) (byte : ℕ) (behind left : List ℕ) → is_begun old.token.head ≡ false →
    is_begun new.token.head ≡ false →
    is_in_token (kind_of byte) old.place ≡ false → new.place ≡ place_after (kind_of byte) old.place →
    new.line ≡ line_after (kind_of byte) old.line → length left ≤ length behind → EndsComment new.place behind left →
    Skips old new (byte ∷ behind) left
passed old new byte behind left old_fresh new_fresh between place line shorter ends = record {
  shorter = omega (arith, shorter);
  tokens = λ more.
      kept_nothing old.token old.place old.line (byte ∷ (behind ++ more)) old_fresh
      ∙ between_step old.place old.line byte (behind ++ more) between
      ∙ ap (λ p. tokens_behind no_bytes p (line_after (kind_of byte) old.line) (behind ++ more)) (sym place)
      ∙ ap (λ l. tokens_behind no_bytes new.place l (behind ++ more)) (sym line)
      ∙ comment_end_tokens new.place new.line behind left more ends
      ∙ sym (kept_nothing new.token new.place new.line (left ++ more) new_fresh);
  lines = λ more.
      ap (λ l. line_behind l (behind ++ more)) (sym line)
      ∙ comment_end_line new.place new.line behind left more ends;
}

outside : (place : LinePlace) (bytes : List ℕ) → place ≢ InComment → EndsComment place bytes bytes
outside LineStart bytes is = refl
outside InLine bytes is = refl
outside InComment bytes is = absurd (is refl)

-- a space outside comments
pub blank_passed : (pieces : TokenPieces) (behind : List ℕ) → is_begun pieces.token.head ≡ false →
    pieces.place ≢ InComment → Skips pieces pieces (32 ∷ behind) behind
blank_passed pieces behind fresh is =
    passed pieces pieces 32 behind behind fresh fresh refl refl refl (omega arith) (outside pieces.place behind is)

-- an LF
pub feed_passed : (old new : TokenPieces) (behind : List ℕ) → is_begun old.token.head ≡ false →
    new.token ≡ old.token → new.place ≡ LineStart → new.line ≡ old.line + 1 → Skips old new (10 ∷ behind) behind
feed_passed old new behind fresh token place line =
    passed old new 10 behind behind fresh (ap (λ t. is_begun t.head) token ∙ fresh) refl place line (omega arith)
    (subst (λ p. EndsComment p behind behind) (sym place) refl)

pub nothing_skipped : (pieces : TokenPieces) (bytes : List ℕ) → Skips pieces pieces bytes bytes
nothing_skipped pieces bytes = record { shorter = omega arith; tokens = λ more. refl; lines = λ more. refl }

pub skipped_on : (old middle new : TokenPieces) (bytes rest left : List ℕ) → Skips old middle bytes rest →
    Skips middle new rest left → Skips old new bytes left
skipped_on old middle new bytes rest left first second =
    let a = first.shorter in
    let b = second.shorter in
    record {
      shorter = omega (arith, a, b);
      tokens = λ more. first.tokens more ∙ second.tokens more;
      lines = λ more. first.lines more ∙ second.lines more;
    }

pub shorter_on : (old new : TokenPieces) (bytes left : List ℕ) (n : ℕ) → length bytes < n → Skips old new bytes left →
    length left < n
shorter_on old new bytes left n short skips = let s = skips.shorter in omega (arith, short, s)
