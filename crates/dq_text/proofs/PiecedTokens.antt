-- The tokens of a text that comes in pieces are those of the whole.
use Rattle.std.proofs.Common.{◌≡◌, ℕ, ◌+◌, ◌<◌, Bool, true, false, not, cond, List, [], ◌∷◌, ◌++◌, map, length, refl, sym, ◌∙◌, ap, subst, arith, append_assoc, if◌then◌else◌}
use Rattle.std.specs.List.{All}
use Rattle.std.proofs.lemmas.List.Elements.{All-head, All-tail}
use Rattle.dq_text.specs.Bytes.{kind_of}
use Rattle.dq_text.specs.Cursor.{begins_token}
use Rattle.dq_text.specs.LongestRuns.{IsVisible}
use Rattle.dq_text.specs.Pieces.{SummarizedToken, summarized, ended, tokens_by, tokens_behind, line_behind, tokens_to_come, last_line_to_come, begins_with_separator, IsWholeToken}
use Rattle.dq_text.specs.Summary.{is_begun, head_with, no_bytes, grown, grown_by, summary_of}
use Rattle.dq_text.specs.Token.{TextToken, is_separator, is_in_token, place_after, line_after, goes_on, extend, put_byte, tokens_from}
use Rattle.dq_text.specs.declared.bytes.ByteKind.{ByteKind}
use Rattle.dq_text.specs.declared.bytes.ByteKind.TheVariants.{Blank, LineFeed, LetterC, Other}
use Rattle.dq_text.specs.declared.cursors.LinePlace.{LinePlace}
use Rattle.dq_text.specs.declared.cursors.LinePlace.TheVariants.{LineStart, InLine, InComment}
use Rattle.dq_text.specs.declared.summaries.Head.{Head}
use Rattle.dq_text.specs.declared.summaries.Head.TheVariants.{Empty, One, Two, Three, Longer}
use Rattle.dq_text.specs.declared.summaries.TokenSummary.{TokenSummary}
use Rattle.dq_text.specs.declared.token_pieces.TokenPieces.{TokenPieces}
use Rattle.dq_text.proofs.PiecedLines.{line_behind_token}

grown_behind : (token : TokenSummary) (text : List ℕ) (byte : ℕ) →
    grown_by token (text ++ byte ∷ []) ≡ grown (grown_by token text) byte
grown_behind token [] byte = refl
grown_behind token (first ∷ text) byte = grown_behind (grown token first) text byte

begun_by : (token : TokenSummary) (text : List ℕ) → is_begun token.head ≡ true →
    is_begun (grown_by token text).head ≡ true
begun_by token [] begun = begun
begun_by token (byte ∷ text) begun = begun_by (grown token byte) text (begun_with token.head byte)
  where
    begun_with : (head : Head) (byte : ℕ) → is_begun (head_with head byte) ≡ true
    begun_with Empty byte = refl
    begun_with (One a) byte = refl
    begun_with (Two a b) byte = refl
    begun_with (Three a b c) byte = refl
    begun_with Longer byte = refl

-- bytes of a token that came before these tokens, and that goes on in the first of them or doesn't
abbrev joined : List ℕ → ℕ → Bool → List TextToken → List TextToken
joined [] line on tokens = tokens
joined (first ∷ before) line true [] = []
joined (first ∷ before) line true (t ∷ ts) = record { text = (first ∷ before) ++ t.text; line = line; at = 0 } ∷ ts
joined (first ∷ before) line false ts = record { text = first ∷ before; line = line; at = 0 } ∷ ts

-- a token that began is on its line
abbrev Fits : List ℕ → LinePlace → Type 0
Fits [] place = Unit {0}
Fits (first ∷ before) LineStart = ⊥
Fits (first ∷ before) InLine = Unit {0}
Fits (first ∷ before) InComment = ⊥

abbrev whole_by : ByteKind → LinePlace → ℕ → ℕ → ℕ → List ℕ → List TextToken
whole_by kind place line at byte bytes =
    let rest = tokens_from (place_after kind place) (line_after kind line) (at + 1) bytes in
    if is_in_token kind place then put_byte byte line at bytes rest else rest

abbrev Same : List ℕ → LinePlace → ℕ → ℕ → List ℕ → Type 0
Same before place line at bytes =
    tokens_behind (summary_of before) place line bytes
    ≡ map summarized (joined before line (goes_on bytes) (tokens_from place line at bytes))

abbrev SameBy : ByteKind → List ℕ → LinePlace → ℕ → ℕ → ℕ → List ℕ → Type 0
SameBy kind before place line at byte bytes =
    tokens_by kind (summary_of before) place line byte (λ t p l. tokens_behind t p l bytes)
    ≡ map summarized (joined before line (not (is_separator kind)) (whole_by kind place line at byte bytes))

abbrev Behind : ℕ → List ℕ → Type 0
Behind at bytes = (before : List ℕ) (place : LinePlace) (line : ℕ) → Fits before place → Same before place line at bytes

-- a first byte of a token
begins : (on : Bool) (line at byte : ℕ) (rest : List TextToken) →
    map summarized (joined (byte ∷ []) line on rest)
    ≡ map summarized (cond on (extend byte line at rest) (record { text = byte ∷ []; line = line; at = at } ∷ rest))
begins true line at byte [] = refl
begins true line at byte (t ∷ ts) = refl
begins false line at byte rest = refl

-- one more
goes : (on : Bool) (first : ℕ) (before : List ℕ) (line at byte : ℕ) (rest : List TextToken) →
    map summarized (joined (first ∷ (before ++ byte ∷ [])) line on rest)
    ≡ map summarized (joined (first ∷ before) line true (cond on (extend byte line at rest)
    (record { text = byte ∷ []; line = line; at = at } ∷ rest)))
goes true first before line at byte [] = refl
goes true first before line at byte (t ∷ ts) =
    ap (λ text. record { summary = summary_of (first ∷ text); line = line } ∷ map summarized ts)
    (append_assoc before (byte ∷ []) t.text)
goes false first before line at byte rest = refl

ends : (first : ℕ) (before : List ℕ) (line : ℕ) (rest : List SummarizedToken) (tokens : List TextToken) →
    rest ≡ map summarized tokens →
    ended (summary_of (first ∷ before)) line rest
    ≡ map summarized (record { text = first ∷ before; line = line; at = 0 } ∷ tokens)
ends first before line rest tokens h =
    ap (λ b. cond b (record { summary = summary_of (first ∷ before); line = line } ∷ rest) rest)
    (begun_by (summary_of (first ∷ [])) before refl)
    ∙ ap (λ ls. record { summary = summary_of (first ∷ before); line = line } ∷ ls) h

begin_step : (line at byte : ℕ) (bytes : List ℕ) → Behind (at + 1) bytes →
    tokens_behind (grown no_bytes byte) InLine line bytes
    ≡ map summarized (put_byte byte line at bytes (tokens_from InLine line (at + 1) bytes))
begin_step line at byte bytes next =
    next (byte ∷ []) InLine line tt ∙ begins (goes_on bytes) line at byte (tokens_from InLine line (at + 1) bytes)

go_step : (first : ℕ) (before : List ℕ) (line at byte : ℕ) (bytes : List ℕ) → Behind (at + 1) bytes →
    tokens_behind (grown (summary_of (first ∷ before)) byte) InLine line bytes
    ≡ map summarized (joined (first ∷ before) line true (put_byte byte line at bytes
    (tokens_from InLine line (at + 1) bytes)))
go_step first before line at byte bytes next =
    ap (λ s. tokens_behind s InLine line bytes) (sym (grown_behind no_bytes (first ∷ before) byte))
    ∙ next (first ∷ (before ++ byte ∷ [])) InLine line tt
    ∙ goes (goes_on bytes) first before line at byte (tokens_from InLine line (at + 1) bytes)

same_by : (kind : ByteKind) (before : List ℕ) (place : LinePlace) (line at byte : ℕ) (bytes : List ℕ) →
    Fits before place →
    Behind (at + 1) bytes → SameBy kind before place line at byte bytes
same_by Blank [] place line at byte bytes fits next = next [] place line tt
same_by LineFeed [] place line at byte bytes fits next = next [] LineStart (line + 1) tt
same_by LetterC [] LineStart line at byte bytes fits next = next [] InComment line tt
same_by LetterC [] InLine line at byte bytes fits next = begin_step line at byte bytes next
same_by LetterC [] InComment line at byte bytes fits next = next [] InComment line tt
same_by Other [] LineStart line at byte bytes fits next = begin_step line at byte bytes next
same_by Other [] InLine line at byte bytes fits next = begin_step line at byte bytes next
same_by Other [] InComment line at byte bytes fits next = next [] InComment line tt
same_by Blank (first ∷ before) InLine line at byte bytes fits next =
    ends first before line _ (tokens_from InLine line (at + 1) bytes) (next [] InLine line tt)
same_by LineFeed (first ∷ before) InLine line at byte bytes fits next =
    ends first before line _ (tokens_from LineStart (line + 1) (at + 1) bytes) (next [] LineStart (line + 1) tt)
same_by LetterC (first ∷ before) InLine line at byte bytes fits next = go_step first before line at byte bytes next
same_by Other (first ∷ before) InLine line at byte bytes fits next = go_step first before line at byte bytes next
same_by kind (first ∷ before) LineStart line at byte bytes fits next = absurd fits
same_by kind (first ∷ before) InComment line at byte bytes fits next = absurd fits

at_end : (before : List ℕ) (place : LinePlace) (line at : ℕ) → Same before place line at []
at_end [] place line at = refl
at_end (first ∷ before) place line at = ends first before line [] [] refl

-- behind a token's first bytes, or none
same : (bytes : List ℕ) (at : ℕ) → Behind at bytes
same [] at before place line fits = at_end before place line at
same (byte ∷ bytes) at before place line fits =
    same_by (kind_of byte) before place line at byte bytes fits (same bytes (at + 1))

pub pieced_tokens : (text : List ℕ) → tokens_behind no_bytes LineStart 1 text ≡ map summarized
    (tokens_from LineStart 1 0 text)
pieced_tokens text = same text 0 [] LineStart 1 tt

-- Where a token stands whole in a piece.

in_line_step : (kind : ByteKind) (token : TokenSummary) (line byte : ℕ)
    (next : TokenSummary → LinePlace → ℕ → List SummarizedToken) →
    is_separator kind ≡ false → tokens_by kind token InLine line byte next ≡ next (grown token byte) InLine line
in_line_step Blank token line byte next h = cc
in_line_step LineFeed token line byte next h = cc
in_line_step LetterC token line byte next h = refl
in_line_step Other token line byte next h = refl

first_step : (kind : ByteKind) (token : TokenSummary) (place : LinePlace) (line byte : ℕ)
    (next : TokenSummary → LinePlace → ℕ → List SummarizedToken) →
    is_in_token kind place ≡ true → tokens_by kind token place line byte next ≡ next (grown token byte) InLine line
first_step Blank token place line byte next h = cc
first_step LineFeed token place line byte next h = cc
first_step LetterC token LineStart line byte next h = cc
first_step LetterC token InLine line byte next h = refl
first_step LetterC token InComment line byte next h = cc
first_step Other token LineStart line byte next h = refl
first_step Other token InLine line byte next h = refl
first_step Other token InComment line byte next h = cc

-- a separator ends a token
separator_step : (kind : ByteKind) (token : TokenSummary) (line byte : ℕ)
    (next : TokenSummary → LinePlace → ℕ → List SummarizedToken) →
    is_separator kind ≡ true → tokens_by kind token InLine line byte next ≡ ended token line
    (next no_bytes (place_after kind InLine) (line_after kind line))
separator_step Blank token line byte next h = refl
separator_step LineFeed token line byte next h = refl
separator_step LetterC token line byte next h = cc
separator_step Other token line byte next h = cc

run_in_line : (text rest : List ℕ) (token : TokenSummary) (line : ℕ) → All IsVisible text →
    tokens_behind token InLine line (text ++ rest) ≡ tokens_behind (grown_by token text) InLine line rest
run_in_line [] rest token line visible = refl
run_in_line (byte ∷ text) rest token line visible =
    in_line_step (kind_of byte) token line byte (λ t p l. tokens_behind t p l (text ++ rest))
    (All-head IsVisible byte text visible)
    ∙ run_in_line text rest (grown token byte) line (All-tail IsVisible byte text visible)

pub none_begun : (head : Head) → is_begun head ≡ false → head ≡ Empty
none_begun Empty h = refl
none_begun (One a) h = cc
none_begun (Two a b) h = cc
none_begun (Three a b c) h = cc
none_begun Longer h = cc

-- what was kept before a token's first byte doesn't matter
pub first_grown : (token : TokenSummary) (byte : ℕ) → token.head ≡ Empty → grown token byte ≡ grown no_bytes byte
first_grown token byte h = search (h)

-- a token that ended is in front of what comes where none is begun
ends_whole : (behind bytes : List ℕ) (token fresh : TokenSummary) (line : ℕ) → begins_with_separator behind ≡ true →
    is_begun token.head ≡ true → is_begun fresh.head ≡ false →
    tokens_behind token InLine line (behind ++ bytes)
    ≡ record { summary = token; line = line } ∷ tokens_behind fresh InLine line (behind ++ bytes)
ends_whole [] bytes token fresh line ends begun none = cc
ends_whole (byte ∷ behind) bytes token fresh line ends begun none =
    let next : TokenSummary → LinePlace → ℕ → List SummarizedToken = λ t p l. tokens_behind t p l (behind ++ bytes) in
    let rest = next no_bytes (place_after (kind_of byte) InLine) (line_after (kind_of byte) line) in
    separator_step (kind_of byte) token line byte next ends
    ∙ ap (λ b. cond b (record { summary = token; line = line } ∷ rest) rest) begun
    ∙ ap (λ ts. record { summary = token; line = line } ∷ ts)
    (sym (separator_step (kind_of byte) fresh line byte next ends ∙ ap
    (λ b. cond b (record { summary = fresh; line = line } ∷ rest) rest) none))

whole_text : (text behind bytes : List ℕ) (token : TokenSummary) (place : LinePlace) (line : ℕ) →
    is_begun token.head ≡ false →
    begins_token place (text ++ behind) → 0 < length text → All IsVisible text → begins_with_separator behind ≡ true →
    tokens_behind token place line (text ++ (behind ++ bytes))
    ≡ record { summary = summary_of text; line = line } ∷ tokens_behind token InLine line (behind ++ bytes)
whole_text [] behind bytes token place line fresh begins some visible ends = absurd (omega (arith, some))
whole_text (byte ∷ text) behind bytes token place line fresh begins some visible ends =
    first_step (kind_of byte) token place line byte (λ t p l. tokens_behind t p l (text ++ (behind ++ bytes))) begins
    ∙ ap (λ t. tokens_behind t InLine line (text ++ (behind ++ bytes)))
    (first_grown token byte (none_begun token.head fresh))
    ∙ run_in_line text (behind ++ bytes) (grown no_bytes byte) line (All-tail IsVisible byte text visible)
    ∙ ends_whole behind bytes (summary_of (byte ∷ text)) token line ends
    (begun_by (summary_of (byte ∷ [])) text refl) fresh

pub whole_token_to_come : (pieces : TokenPieces) (bytes text behind more : List ℕ) →
    IsWholeToken pieces bytes text behind →
    tokens_to_come pieces (bytes ++ more)
    ≡ record { summary = summary_of text; line = pieces.line } ∷ tokens_behind pieces.token InLine pieces.line
    (behind ++ more)
whole_token_to_come pieces bytes text behind more is =
    ap (λ xs. tokens_to_come pieces (xs ++ more)) is.parts
    ∙ ap (λ xs. tokens_to_come pieces xs) (append_assoc text behind more)
    ∙ whole_text text behind more pieces.token pieces.place pieces.line is.start.fresh
    (subst (λ xs. begins_token pieces.place xs) is.parts is.start.begins) is.some is.visible is.ends

pub whole_token_line : (pieces : TokenPieces) (bytes text behind more : List ℕ) →
    IsWholeToken pieces bytes text behind →
    last_line_to_come pieces (bytes ++ more) ≡ line_behind pieces.line (behind ++ more)
whole_token_line pieces bytes text behind more is =
    ap (λ xs. line_behind pieces.line (xs ++ more)) is.parts
    ∙ ap (λ xs. line_behind pieces.line xs) (append_assoc text behind more)
    ∙ line_behind_token text (behind ++ more) pieces.line is.visible
