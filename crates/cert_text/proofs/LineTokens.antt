-- The lines of a text by their tokens.
use Rattle.std.proofs.Common.{◌≡◌, ℕ, ◌+◌, ◌==◌, Bool, true, false, cond, List, [], ◌∷◌, map, refl, ◌∙◌, ap, arith}
use Rattle.dq_text.specs.Line.{TextLine, line_tokens, extend_line, lines_from}
use Rattle.cert_text.specs.Grammar.{Tokens}

abbrev pub by_tokens : List TextLine → List Tokens
by_tokens lines = map (λ line. line_tokens line.text) lines

abbrev texts : List TextLine → List (List ℕ)
texts lines = map (λ line. line.text) lines

abbrev pub extend_text : ℕ → List (List ℕ) → List (List ℕ)
extend_text byte [] = (byte ∷ []) ∷ []
extend_text byte (text ∷ rest) = (byte ∷ text) ∷ rest

extended : (byte n : ℕ) (lines : List TextLine) → texts (extend_line byte n lines) ≡ extend_text byte (texts lines)
extended byte n [] = refl
extended byte n (line ∷ lines) = refl

-- the texts of the lines, without their numbers
abbrev pub texts_of : List ℕ → List (List ℕ)
texts_of [] = []
texts_of (byte ∷ bytes) = cond (byte == 10) ([] ∷ texts_of bytes) (extend_text byte (texts_of bytes))

cut : (feed : Bool) (byte n : ℕ) (bytes : List ℕ) → texts (lines_from (n + 1) bytes) ≡ texts_of bytes →
    texts (lines_from n bytes) ≡ texts_of bytes →
    texts (cond feed (record { text = []; number = n; behind = bytes } ∷ lines_from (n + 1) bytes)
    (extend_line byte n (lines_from n bytes)))
    ≡ cond feed ([] ∷ texts_of bytes) (extend_text byte (texts_of bytes))
cut true byte n bytes next same = ap (λ rest. [] ∷ rest) next
cut false byte n bytes next same = extended byte n (lines_from n bytes) ∙ ap (extend_text byte) same

texts_are : (n : ℕ) (bytes : List ℕ) → texts (lines_from n bytes) ≡ texts_of bytes
texts_are n [] = refl
texts_are n (byte ∷ bytes) = cut (byte == 10) byte n bytes (texts_are (n + 1) bytes) (texts_are n bytes)

tokens_of_texts : (lines : List TextLine) → by_tokens lines ≡ map line_tokens (texts lines)
tokens_of_texts [] = refl
tokens_of_texts (line ∷ lines) = ap (λ rest. line_tokens line.text ∷ rest) (tokens_of_texts lines)

-- whatever the number of the first line is
pub same_tokens : (n m : ℕ) (bytes : List ℕ) → by_tokens (lines_from n bytes) ≡ by_tokens (lines_from m bytes)
same_tokens n m bytes = search (arith, tokens_of_texts, texts_are)

pub tokens_by_text : (n : ℕ) (bytes : List ℕ) → by_tokens (lines_from n bytes) ≡ map line_tokens (texts_of bytes)
tokens_by_text n bytes = tokens_of_texts (lines_from n bytes) ∙ ap (map line_tokens) (texts_are n bytes)
