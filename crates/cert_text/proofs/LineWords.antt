-- The lines of a text that is put together from words.
use Rattle.std.proofs.Common.{◌≡◌, List, [], ◌∷◌, ◌++◌, ℕ, map, refl, sym, ◌∙◌, ap, append_assoc, arith}
use Rattle.dq_text.specs.Line.{line_tokens}
use Rattle.dq_text.proofs.LineWords.{IsWord, AreWords, AreNoFeed, spaced, words_tokens, both_no_feed, word_no_feed, words_no_feed}
use Rattle.cert_text.specs.Grammar.{Tokens}
use Rattle.cert_text.proofs.LineTokens.{extend_text, texts_of}

one_line : (bytes rest : List ℕ) → AreNoFeed bytes → texts_of (bytes ++ 10 ∷ rest) ≡ bytes ∷ texts_of rest
one_line [] rest none = refl
one_line (byte ∷ bytes) rest none = search (arith, texts_of, extend_text, (one_line bytes rest none.1))

abbrev pub tokens_of : List ℕ → List Tokens
tokens_of bytes = map line_tokens (texts_of bytes)

-- a line of words, with one space between them, in front of other lines
pub line_of_words : (words : List (List ℕ)) (last rest : List ℕ) → AreWords words → IsWord last →
    tokens_of (spaced words ++ (last ++ 10 ∷ rest)) ≡ (words ++ last ∷ []) ∷ tokens_of rest
line_of_words words last rest are is =
    ap tokens_of (sym (append_assoc (spaced words) last (10 ∷ rest)))
    ∙ ap (map line_tokens) (one_line (spaced words ++ last) rest
    (both_no_feed (spaced words) last (words_no_feed words are) (word_no_feed last is)))
    ∙ ap (λ tokens. tokens ∷ tokens_of rest) (words_tokens words last are is)
