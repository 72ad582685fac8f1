-- The tokens of a text are those of its lines that aren't comments.
use Rattle.std.proofs.Common.{◌≡◌, ℕ, ◌+◌, ◌==◌, Bool, true, false, not, cond, ◌||◌, List, [], ◌∷◌, ◌++◌, map, refl, sym, ◌∙◌, ap, ap₂, inl, inr}
use Rattle.std.proofs.lemmas.Bool.{cases_Bool, cases_eq, ne_eqb}
use Rattle.std.specs.List.{flat_map}
use Rattle.dq_text.specs.Bytes.{kind_of}
use Rattle.dq_text.specs.Token.{TextToken, is_separator, is_in_token, place_after, line_after, goes_on, extend, put_byte, tokens_from}
use Rattle.dq_text.specs.Line.{TextLine, extend_token, line_tokens, extend_line, lines_from}
use Rattle.dq_text.specs.NumberedTokens.{begins_comment, is_comment, numbered, numbered_tokens}
use Rattle.dq_text.specs.declared.bytes.ByteKind.{ByteKind}
use Rattle.dq_text.specs.declared.bytes.ByteKind.TheVariants.{Blank, LineFeed, LetterC, Other}
use Rattle.dq_text.specs.declared.cursors.LinePlace.{LinePlace}
use Rattle.dq_text.specs.declared.cursors.LinePlace.TheVariants.{LineStart, InLine, InComment}
use Rattle.dq_text.proofs.TokenCuts.{token_step, cut_line_token}

abbrev Numbered : Type 0
Numbered = ℕ × List ℕ

abbrev number_all : ℕ → List (List ℕ) → List Numbered
number_all n tokens = map (λ t. (n, t)) tokens

abbrev of_lines : List TextLine → List Numbered
of_lines lines = flat_map numbered_tokens lines

-- what the rest of the first line and the lines behind it give, by where that rest stands
abbrev by_place : LinePlace → List TextLine → List Numbered
by_place LineStart [] = []
by_place InLine [] = []
by_place InComment [] = []
by_place LineStart (l ∷ lines) = of_lines (l ∷ lines)
by_place InLine (l ∷ lines) = number_all l.number (line_tokens l.text) ++ of_lines lines
by_place InComment (l ∷ lines) = of_lines lines

at_start : (lines : List TextLine) → by_place LineStart lines ≡ of_lines lines
at_start [] = refl
at_start (l ∷ lines) = refl

-- the first line has this number
abbrev HeadIs : ℕ → List TextLine → Type 0
HeadIs n [] = Unit {0}
HeadIs n (l ∷ _) = l.number ≡ n

extended_head : (byte n : ℕ) (lines : List TextLine) → HeadIs n (extend_line byte n lines)
extended_head byte n [] = refl
extended_head byte n (l ∷ lines) = refl

either_head : (feed : Bool) (byte n : ℕ) (l : TextLine) (others lines : List TextLine) → l.number ≡ n →
    HeadIs n (cond feed (l ∷ others) (extend_line byte n lines))
either_head true byte n l others lines h = h
either_head false byte n l others lines h = extended_head byte n lines

pub line_head : (n : ℕ) (bytes : List ℕ) → HeadIs n (lines_from n bytes)
line_head n [] = tt
line_head n (byte ∷ bytes) =
    either_head (byte == 10) byte n (record { text = []; number = n; behind = bytes }) (lines_from (n + 1) bytes)
    (lines_from n bytes) refl

abbrev first_text : List TextLine → List ℕ
first_text [] = []
first_text (l ∷ _) = l.text

extended_goes : (byte n : ℕ) (lines : List TextLine) → goes_on (first_text (extend_line byte n lines)) ≡ not
    (is_separator (kind_of byte))
extended_goes byte n [] = refl
extended_goes byte n (l ∷ lines) = refl

-- a first line goes on as the bytes do
front_goes : (n : ℕ) (bytes : List ℕ) → goes_on (first_text (lines_from n bytes)) ≡ goes_on bytes
front_goes n [] = refl
front_goes n (byte ∷ bytes) =
    let l : TextLine = record { text = []; number = n; behind = bytes } in
    elim (cases_eq byte 10) [
      | inl same ↦
          ap (λ b. goes_on (first_text (cond (b == 10) (l ∷ lines_from (n + 1) bytes)
          (extend_line byte n (lines_from n bytes))))) same
          ∙ sym (ap (λ b. not (is_separator (kind_of b))) same)
      | inr other ↦
          ap (λ b. goes_on (first_text (cond b (l ∷ lines_from (n + 1) bytes)
          (extend_line byte n (lines_from n bytes))))) (ne_eqb byte 10 other)
          ∙ extended_goes byte n (lines_from n bytes)
    ]

blank_tokens : (byte : ℕ) (bytes : List ℕ) → kind_of byte ≡ Blank → line_tokens (byte ∷ bytes) ≡ line_tokens bytes
blank_tokens byte bytes h =
    let tokens = line_tokens bytes in
    ap (λ k. cond (is_separator k) tokens (cond (goes_on bytes) (extend_token byte tokens) ((byte ∷ []) ∷ tokens))) h

blank_comment : (byte : ℕ) (bytes : List ℕ) → kind_of byte ≡ Blank → is_comment (byte ∷ bytes) ≡ is_comment bytes
blank_comment byte bytes h = ap (λ k. begins_comment k (is_comment bytes)) h

inside_comment : (byte n : ℕ) (lines : List TextLine) → by_place InComment (extend_line byte n lines)
    ≡ by_place InComment lines
inside_comment byte n [] = refl
inside_comment byte n (l ∷ lines) = refl

blank_front : (place : LinePlace) (byte n : ℕ) (lines : List TextLine) → kind_of byte ≡ Blank → HeadIs n lines →
    by_place place (extend_line byte n lines) ≡ by_place place lines
blank_front LineStart byte n [] h head =
    ap₂ (λ c ts. cond c [] (number_all n ts) ++ []) (blank_comment byte [] h) (blank_tokens byte [] h)
blank_front LineStart byte n (l ∷ lines) h head =
    ap₂ (λ c ts. cond c [] (number_all n ts) ++ of_lines lines) (blank_comment byte l.text h)
    (blank_tokens byte l.text h)
    ∙ sym (ap (λ k. cond (is_comment l.text) [] (number_all k (line_tokens l.text)) ++ of_lines lines) head)
blank_front InLine byte n [] h head = ap (λ ts. number_all n ts ++ []) (blank_tokens byte [] h)
blank_front InLine byte n (l ∷ lines) h head =
    ap (λ ts. number_all n ts ++ of_lines lines) (blank_tokens byte l.text h)
    ∙ sym (ap (λ k. number_all k (line_tokens l.text) ++ of_lines lines) head)
blank_front InComment byte n lines h head = inside_comment byte n lines

comment_front : (byte n : ℕ) (lines : List TextLine) → kind_of byte ≡ LetterC →
    by_place LineStart (extend_line byte n lines) ≡ by_place InComment lines
comment_front byte n [] h = ap (λ k. cond (begins_comment k false) [] (number_all n (line_tokens (byte ∷ []))) ++ []) h
comment_front byte n (l ∷ lines) h =
    ap (λ k. cond (begins_comment k (is_comment l.text)) [] (number_all n (line_tokens (byte ∷ l.text))) ++ of_lines
    lines) h

other_front : (byte n : ℕ) (lines : List TextLine) → kind_of byte ≡ Other →
    by_place LineStart (extend_line byte n lines) ≡ by_place InLine (extend_line byte n lines)
other_front byte n [] h = ap (λ k. cond (begins_comment k false) [] (number_all n (line_tokens (byte ∷ []))) ++ []) h
other_front byte n (l ∷ lines) h =
    ap (λ k. cond (begins_comment k (is_comment l.text)) [] (number_all n (line_tokens (byte ∷ l.text))) ++ of_lines
    lines) h

-- a byte in front of the first token
abbrev extend_first : ℕ → ℕ → List Numbered → List Numbered
extend_first byte n [] = []
extend_first byte n (t ∷ ts) = (n, byte ∷ t.1) ∷ ts

extended : (byte n at : ℕ) (tokens : List TextToken) → map numbered (extend byte n at tokens) ≡ extend_first byte n
    (map numbered tokens)
extended byte n at [] = refl
extended byte n at (t ∷ ts) = refl

extend_front : (byte n m : ℕ) (tokens : List (List ℕ)) (t : List ℕ) (ts : List (List ℕ)) (others : List Numbered) →
    tokens ≡ t ∷ ts → m ≡ n →
    extend_first byte n (number_all m tokens ++ others) ≡ number_all n (extend_token byte tokens) ++ others
extend_front byte n m tokens t ts others is same =
    ap (λ xs. extend_first byte n (number_all m xs ++ others)) is
    ∙ ap (λ k. (n, byte ∷ t) ∷ (number_all k ts ++ others)) same
    ∙ sym (ap (λ xs. number_all n (extend_token byte xs) ++ others) is)

line_step : (byte : ℕ) (bytes : List ℕ) (goes : Bool) → is_separator (kind_of byte) ≡ false → goes_on bytes ≡ goes →
    line_tokens (byte ∷ bytes) ≡ cond goes (extend_token byte (line_tokens bytes)) ((byte ∷ []) ∷ line_tokens bytes)
line_step byte bytes goes visible is =
    let tokens = line_tokens bytes in
    token_step (is_separator (kind_of byte)) byte bytes tokens visible
    ∙ ap (λ b. cond b (extend_token byte tokens) ((byte ∷ []) ∷ tokens)) is

token_front : (byte n at : ℕ) (bytes : List ℕ) (tokens : List TextToken) (lines : List TextLine) →
    is_separator (kind_of byte) ≡ false →
    goes_on (first_text lines) ≡ goes_on bytes → HeadIs n lines → map numbered tokens ≡ by_place InLine lines →
    map numbered (put_byte byte n at bytes tokens) ≡ by_place InLine (extend_line byte n lines)
token_front byte n at bytes tokens [] visible same head told =
    ap (λ g. map numbered (cond g (extend byte n at tokens) (record { text = byte ∷ []; line = n; at = at } ∷ tokens)))
    (sym same)
    ∙ ap (λ rest. (n, byte ∷ []) ∷ rest) told
    ∙ sym (ap (λ ts. number_all n ts ++ []) (line_step byte [] false visible refl))
token_front byte n at bytes tokens (l ∷ lines) visible same head told =
    let put : Bool → List Numbered = λ g. map numbered (cond g (extend byte n at tokens)
    (record { text = byte ∷ []; line = n; at = at } ∷ tokens)) in
    let here = line_tokens l.text in
    elim (cases_Bool (goes_on l.text)) [
      | inl goes ↦
          ap put (sym same ∙ goes)
          ∙ extended byte n at tokens
          ∙ ap (extend_first byte n) told
          ∙ extend_front byte n l.number here _ _ (of_lines lines) (cut_line_token l.text goes) head
          ∙ sym (ap (λ ts. number_all n ts ++ of_lines lines) (line_step byte l.text true visible goes))
      | inr ends ↦
          ap put (sym same ∙ ends)
          ∙ ap (λ rest. (n, byte ∷ []) ∷ rest) told
          ∙ ap (λ k. (n, byte ∷ []) ∷ (number_all k here ++ of_lines lines)) head
          ∙ sym (ap (λ ts. number_all n ts ++ of_lines lines) (line_step byte l.text false visible ends))
    ]

abbrev is_feed : ByteKind → Bool
is_feed Blank = false
is_feed LineFeed = true
is_feed LetterC = false
is_feed Other = false

no_feed : (a b c : Bool) → b ≡ false → is_feed (cond a Blank (cond b LineFeed (cond c LetterC Other))) ≡ false
no_feed true b c h = refl
no_feed false true c h = cc
no_feed false false true h = refl
no_feed false false false h = refl

feed_is : (byte : ℕ) → (byte == 10) ≡ is_feed (kind_of byte)
feed_is byte =
    elim (cases_eq byte 10) [
      | inl same ↦ ap (λ b. b == 10) same ∙ sym (ap (λ b. is_feed (kind_of b)) same)
      | inr other ↦
          ne_eqb byte 10 other
          ∙ sym (no_feed (byte == 32 || (byte == 9 || byte == 13)) (byte == 10) (byte == 99) (ne_eqb byte 10 other))
    ]

-- the tokens of the bytes behind, wherever they stand
abbrev AreTold : List ℕ → Type 0
AreTold bytes = (place : LinePlace) (n at : ℕ) → map numbered (tokens_from place n at bytes) ≡ by_place place
    (lines_from n bytes)

byte_step : (kind : ByteKind) (place : LinePlace) (byte n at : ℕ) (bytes : List ℕ) → kind_of byte ≡ kind →
    AreTold bytes →
    map numbered
    (cond (is_in_token kind place) (put_byte byte n at bytes
    (tokens_from (place_after kind place) (line_after kind n) (at + 1) bytes))
    (tokens_from (place_after kind place) (line_after kind n) (at + 1) bytes))
    ≡ by_place place (cond (is_feed kind) (record { text = []; number = n; behind = bytes } ∷ lines_from (n + 1) bytes)
    (extend_line byte n (lines_from n bytes)))
byte_step LineFeed LineStart byte n at bytes is told = told LineStart (n + 1) (at + 1) ∙ at_start
    (lines_from (n + 1) bytes)
byte_step LineFeed InLine byte n at bytes is told = told LineStart (n + 1) (at + 1) ∙ at_start
    (lines_from (n + 1) bytes)
byte_step LineFeed InComment byte n at bytes is told = told LineStart (n + 1) (at + 1) ∙ at_start
    (lines_from (n + 1) bytes)
byte_step Blank place byte n at bytes is told =
    told place n (at + 1) ∙ sym (blank_front place byte n (lines_from n bytes) is (line_head n bytes))
byte_step LetterC LineStart byte n at bytes is told = told InComment n (at + 1) ∙ sym
    (comment_front byte n (lines_from n bytes) is)
byte_step LetterC InLine byte n at bytes is told =
    token_front byte n at bytes (tokens_from InLine n (at + 1) bytes) (lines_from n bytes) (ap is_separator is)
    (front_goes n bytes) (line_head n bytes) (told InLine n (at + 1))
byte_step LetterC InComment byte n at bytes is told = told InComment n (at + 1) ∙ sym
    (inside_comment byte n (lines_from n bytes))
byte_step Other LineStart byte n at bytes is told =
    token_front byte n at bytes (tokens_from InLine n (at + 1) bytes) (lines_from n bytes) (ap is_separator is)
    (front_goes n bytes) (line_head n bytes) (told InLine n (at + 1))
    ∙ sym (other_front byte n (lines_from n bytes) is)
byte_step Other InLine byte n at bytes is told =
    token_front byte n at bytes (tokens_from InLine n (at + 1) bytes) (lines_from n bytes) (ap is_separator is)
    (front_goes n bytes) (line_head n bytes) (told InLine n (at + 1))
byte_step Other InComment byte n at bytes is told = told InComment n (at + 1) ∙ sym
    (inside_comment byte n (lines_from n bytes))

at_end : (place : LinePlace) (n at : ℕ) → map numbered (tokens_from place n at []) ≡ by_place place (lines_from n [])
at_end LineStart n at = refl
at_end InLine n at = refl
at_end InComment n at = refl

told : (bytes : List ℕ) → AreTold bytes
told [] = at_end
told (byte ∷ bytes) = λ place n at.
    byte_step (kind_of byte) place byte n at bytes refl (told bytes)
    ∙ sym (ap (λ feed. by_place place (cond feed (record { text = []; number = n; behind = bytes } ∷ lines_from
    (n + 1) bytes) (extend_line byte n (lines_from n bytes)))) (feed_is byte))

-- the tokens of a text are those of its lines that aren't comments, in order
pub tokens_of_lines : (bytes : List ℕ) → map numbered (tokens_from LineStart 1 0 bytes) ≡ flat_map numbered_tokens
    (lines_from 1 bytes)
tokens_of_lines bytes = told bytes LineStart 1 0 ∙ at_start (lines_from 1 bytes)
