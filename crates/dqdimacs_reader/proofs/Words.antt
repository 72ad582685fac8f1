-- The tokens of a text that is put together from words.
use Rattle.std.proofs.Common.{◌≡◌, ℕ, ◌+◌, Bool, true, false, not, if◌then◌else◌, List, [], ◌∷◌, ◌++◌, map, refl, ◌∙◌, ap}
use Rattle.dq_text.proofs.Numerals.{AreOther}
use Rattle.dq_text.specs.Bytes.{kind_of}
use Rattle.dq_text.specs.Token.{TextToken, tokens_from, place_after, line_after, is_in_token, is_separator, goes_on, extend, put_byte}
use Rattle.dq_text.specs.declared.bytes.ByteKind.TheVariants.{Other}
use Rattle.dq_text.specs.declared.cursors.LinePlace.{LinePlace}
use Rattle.dq_text.specs.declared.cursors.LinePlace.TheVariants.{LineStart, InLine, InComment}

abbrev pub text_of : TextToken → List ℕ
text_of token = token.text

abbrev pub extend_word : ℕ → List (List ℕ) → List (List ℕ)
extend_word byte [] = []
extend_word byte (word ∷ words) = (byte ∷ word) ∷ words

abbrev pub put_in_word : ℕ → List ℕ → List (List ℕ) → List (List ℕ)
put_in_word byte bytes words = if goes_on bytes then extend_word byte words else (byte ∷ []) ∷ words

-- the tokens' texts, apart from their places
abbrev pub words_from : LinePlace → List ℕ → List (List ℕ)
words_from place [] = []
words_from place (byte ∷ bytes) =
    let rest = words_from (place_after (kind_of byte) place) bytes in
    if is_in_token (kind_of byte) place then put_in_word byte bytes rest else rest

extended : (byte line at : ℕ) (tokens : List TextToken) → map text_of (extend byte line at tokens) ≡ extend_word byte
    (map text_of tokens)
extended byte line at [] = refl
extended byte line at (token ∷ tokens) = refl

put : (goes : Bool) (byte line at : ℕ) (tokens : List TextToken) (token : TextToken) → token.text ≡ byte ∷ [] →
    map text_of (if goes then extend byte line at tokens else token ∷ tokens)
    ≡ (if goes then extend_word byte (map text_of tokens) else (byte ∷ []) ∷ map text_of tokens)
put true byte line at tokens token is = extended byte line at tokens
put false byte line at tokens token is = ap (λ word. word ∷ map text_of tokens) is

chosen : (inside : Bool) (byte line at : ℕ) (bytes : List ℕ) (tokens : List TextToken) →
    map text_of (if inside then put_byte byte line at bytes tokens else tokens)
    ≡ (if inside then put_in_word byte bytes (map text_of tokens) else map text_of tokens)
chosen true byte line at bytes tokens =
    put (goes_on bytes) byte line at tokens (record { text = byte ∷ []; line = line; at = at }) refl
chosen false byte line at bytes tokens = refl

pub words_are : (place : LinePlace) (line at : ℕ) (bytes : List ℕ) →
    map text_of (tokens_from place line at bytes) ≡ words_from place bytes
words_are place line at [] = refl
words_are place line at (byte ∷ bytes) =
    let kind = kind_of byte in
    let inside = is_in_token kind place in
    chosen inside byte line at bytes (tokens_from (place_after kind place) (line_after kind line) (at + 1) bytes)
    ∙ ap (λ words. if inside then put_in_word byte bytes words else words)
    (words_are (place_after kind place) (line_after kind line) (at + 1) bytes)

abbrev pub IsOpen : LinePlace → Type 0
IsOpen LineStart = Unit {0}
IsOpen InLine = Unit {0}
IsOpen InComment = ⊥

first_byte : (place : LinePlace) (byte : ℕ) (bytes : List ℕ) → IsOpen place → kind_of byte ≡ Other →
    words_from place (byte ∷ bytes) ≡ put_in_word byte bytes (words_from InLine bytes)
first_byte LineStart byte bytes start other =
    ap (λ kind. if is_in_token kind LineStart then put_in_word byte bytes
    (words_from (place_after kind LineStart) bytes)
    else words_from (place_after kind LineStart) bytes) other
first_byte InLine byte bytes start other =
    ap (λ kind. if is_in_token kind InLine then put_in_word byte bytes (words_from (place_after kind InLine) bytes)
    else words_from (place_after kind InLine) bytes) other
first_byte InComment byte bytes start other = elim start [ ]

-- a word in front, cut by a space
pub word_space : (place : LinePlace) (byte : ℕ) (word rest : List ℕ) → IsOpen place → kind_of byte ≡ Other →
    AreOther word →
    words_from place (byte ∷ word ++ 32 ∷ rest) ≡ (byte ∷ word) ∷ words_from InLine rest
word_space place byte [] rest start other others = first_byte place byte (32 ∷ rest) start other
word_space place byte (next ∷ word) rest start other others =
    first_byte place byte (next ∷ word ++ 32 ∷ rest) start other
    ∙ ap (λ kind. if not (is_separator kind) then extend_word byte (words_from InLine (next ∷ word ++ 32 ∷ rest))
    else (byte ∷ []) ∷ words_from InLine (next ∷ word ++ 32 ∷ rest)) others.0
    ∙ ap (extend_word byte) (word_space InLine next word rest tt others.0 others.1)

-- and by the end of the line
pub word_line : (place : LinePlace) (byte : ℕ) (word rest : List ℕ) → IsOpen place → kind_of byte ≡ Other →
    AreOther word →
    words_from place (byte ∷ word ++ 10 ∷ rest) ≡ (byte ∷ word) ∷ words_from LineStart rest
word_line place byte [] rest start other others = first_byte place byte (10 ∷ rest) start other
word_line place byte (next ∷ word) rest start other others =
    first_byte place byte (next ∷ word ++ 10 ∷ rest) start other
    ∙ ap (λ kind. if not (is_separator kind) then extend_word byte (words_from InLine (next ∷ word ++ 10 ∷ rest))
    else (byte ∷ []) ∷ words_from InLine (next ∷ word ++ 10 ∷ rest)) others.0
    ∙ ap (extend_word byte) (word_line InLine next word rest tt others.0 others.1)
