-- Lines that are put together, and lines of numbers.
use Rattle.std.proofs.Common.{◌≡◌, ℕ, ◌+◌, ◌<◌, ◌^◌, cond, List, [], ◌∷◌, ◌++◌, map, refl, ◌∙◌, ap, ap₂, append_assoc, arith}
use Rattle.std.specs.Fmt.{decimal}
use Rattle.std.specs.List.{AllByRecursion, flat_map}
use Rattle.std.proofs.lemmas.List.{map-append}
use Rattle.dq_text.specs.Line.{TextLine, line_tokens, extend_line, lines_from}
use Rattle.dq_text.specs.Number.{number_of}
use Rattle.dq_text.specs.Written.{number_text}
use Rattle.dq_text.specs.declared.numbers.Number.{Number}
use Rattle.dq_text.proofs.LineWords.{AreWords, AreNoFeed, spaced, words_tokens, both_no_feed, word_no_feed, words_no_feed, natural_is_word}
use Rattle.dq_text.proofs.Numerals.{natural_is_read}
use Rattle.aiger_text.specs.Grammar.{naturals, line_numbers}
use Rattle.aiger_text.proofs.NaturalTokens.{IsSmallNumber}

-- lines, each with its LF
abbrev pub joined_lines : List (List ℕ) → List ℕ
joined_lines texts = flat_map (λ text. text ++ 10 ∷ []) texts

-- these lines from this number on, in front of other bytes
abbrev pub lines_before : ℕ → List (List ℕ) → List ℕ → List TextLine
lines_before n [] rest = []
lines_before n (text ∷ texts) rest = record { text = text; number = n; behind = joined_lines texts ++ rest } ∷
    lines_before (n + 1) texts rest

abbrev pub number_after : ℕ → List (List ℕ) → ℕ
number_after n [] = n
number_after n (_ ∷ texts) = number_after (n + 1) texts

pub one_line : (n : ℕ) (bytes rest : List ℕ) → AreNoFeed bytes →
    lines_from n (bytes ++ 10 ∷ rest) ≡ record { text = bytes; number = n; behind = rest } ∷ lines_from (n + 1) rest
one_line n [] rest none = refl
one_line n (byte ∷ bytes) rest none =
    ap (λ b. cond b (record { text = []; number = n; behind = bytes ++ 10 ∷ rest } ∷ lines_from (n + 1)
    (bytes ++ 10 ∷ rest)) (extend_line byte n (lines_from n (bytes ++ 10 ∷ rest)))) none.0
    ∙ ap (extend_line byte n) (one_line n bytes rest none.1)

pub joined_are : (n : ℕ) (texts : List (List ℕ)) (rest : List ℕ) → AllByRecursion AreNoFeed texts →
    lines_from n (joined_lines texts ++ rest) ≡ lines_before n texts rest ++ lines_from (number_after n texts) rest
joined_are n [] rest none = refl
joined_are n (text ∷ texts) rest none =
    ap (lines_from n) (append_assoc (text ++ 10 ∷ []) (joined_lines texts) rest ∙ append_assoc text (10 ∷ [])
    (joined_lines texts ++ rest))
    ∙ one_line n text (joined_lines texts ++ rest) none.0
    ∙ ap (λ lines. record { text = text; number = n; behind = joined_lines texts ++ rest } ∷ lines)
    (joined_are (n + 1) texts rest none.1)

abbrev pub line_numbers_of : List ℕ → List Number
line_numbers_of text = map number_of (line_tokens text)

pub numbers_of_lines : (n : ℕ) (texts : List (List ℕ)) (rest : List ℕ) →
    map line_numbers (lines_before n texts rest) ≡ map line_numbers_of texts
numbers_of_lines n [] rest = refl
numbers_of_lines n (text ∷ texts) rest = ap (λ ns. line_numbers_of text ∷ ns) (numbers_of_lines (n + 1) texts rest)

pub both_lines : (xs ys : List (List ℕ)) → AllByRecursion AreNoFeed xs → AllByRecursion AreNoFeed ys →
    AllByRecursion AreNoFeed (xs ++ ys)
both_lines [] ys left right = right
both_lines (x ∷ xs) ys left right = (left.0, both_lines xs ys left.1 right)

abbrev pub AreSmall : List ℕ → Type 0
AreSmall ns = AllByRecursion IsSmallNumber ns

-- words, and numbers behind them, with one space between them
abbrev pub numbers_line : List (List ℕ) → List ℕ → ℕ → List ℕ
numbers_line words ns last = spaced words ++ (flat_map number_text ns ++ decimal last)

both_words : (xs : List (List ℕ)) (ns : List ℕ) → AreWords xs → AreSmall ns → AreWords (xs ++ map decimal ns)
both_words [] [] left right = tt
both_words [] (n ∷ ns) left right = (natural_is_word n right.0, both_words [] ns tt right.1)
both_words (x ∷ xs) ns left right = (left.0, both_words xs ns left.1 right)

numbers_spaced : (words : List (List ℕ)) (ns : List ℕ) (last : ℕ) →
    numbers_line words ns last ≡ spaced (words ++ map decimal ns) ++ decimal last
numbers_spaced [] [] last = refl
numbers_spaced [] (n ∷ ns) last = search (arith, append_assoc, (numbers_spaced [] ns last))
numbers_spaced (word ∷ words) ns last = search (arith, append_assoc, (numbers_spaced words ns last))

pub numbers_tokens : (words : List (List ℕ)) (ns : List ℕ) (last : ℕ) → AreWords words → AreSmall ns → last < 10 ^ 18 →
    line_tokens (numbers_line words ns last) ≡ words ++ map decimal (ns ++ last ∷ [])
numbers_tokens words ns last are small is =
    search (arith, numbers_spaced, words_tokens, both_words, natural_is_word, append_assoc, map-append)

pub numbers_no_feed : (words : List (List ℕ)) (ns : List ℕ) (last : ℕ) → AreWords words → AreSmall ns → last < 10 ^ 18 →
    AreNoFeed (numbers_line words ns last)
numbers_no_feed words ns last are small is =
    search (arith, numbers_spaced, both_no_feed, words_no_feed, both_words, word_no_feed, natural_is_word)

pub numbers_are_read : (ns : List ℕ) → AreSmall ns → map number_of (map decimal ns) ≡ naturals ns
numbers_are_read [] small = refl
numbers_are_read (n ∷ ns) small = ap₂ (λ x xs. x ∷ xs) (natural_is_read n small.0) (numbers_are_read ns small.1)

both_small : (ns : List ℕ) (last : ℕ) → AreSmall ns → last < 10 ^ 18 → AreSmall (ns ++ last ∷ [])
both_small [] last small is = (is, tt)
both_small (n ∷ ns) last small is = (small.0, both_small ns last small.1 is)

pub line_is_read : (ns : List ℕ) (last : ℕ) → AreSmall ns → last < 10 ^ 18 →
    line_numbers_of (numbers_line [] ns last) ≡ naturals (ns ++ last ∷ [])
line_is_read ns last small is = search (arith, numbers_tokens, numbers_are_read, both_small)
