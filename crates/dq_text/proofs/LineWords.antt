-- Words with a space between them: the tokens of a line, and that it is one line.
use Rattle.std.proofs.Common.{◌≡◌, ℕ, ◌==◌, ◌<◌, ◌^◌, true, false, not, inl, inr, if◌then◌else◌, List, [], ◌∷◌, ◌++◌, length, refl, ◌∙◌, ap, append_assoc, arith}
use Rattle.std.specs.Fmt.{decimal}
use Rattle.std.specs.List.{AllByRecursion, flat_map}
use Rattle.std.proofs.lemmas.Bool.{cases_Bool, eqb-true}
use Rattle.dq_text.specs.Bytes.{kind_of}
use Rattle.dq_text.specs.Line.{line_tokens, extend_token}
use Rattle.dq_text.specs.Token.{is_separator, goes_on}
use Rattle.dq_text.specs.declared.bytes.ByteKind.{ByteKind}
use Rattle.dq_text.specs.declared.bytes.ByteKind.TheVariants.{LineFeed, Other}
use Rattle.dq_text.proofs.Numerals.{AreOther, AreDigits, digits_other, decimal_digits}

abbrev pub IsWord : List ℕ → Type 0
IsWord [] = ⊥
IsWord (byte ∷ bytes) = (kind_of byte ≡ Other) × AreOther bytes

pub first_byte : (byte : ℕ) (bytes : List ℕ) → kind_of byte ≡ Other →
    line_tokens (byte ∷ bytes) ≡ (if goes_on bytes then extend_token byte (line_tokens bytes) else
    (byte ∷ []) ∷ line_tokens bytes)
first_byte byte bytes other =
    ap (λ kind. if is_separator kind then line_tokens bytes else if goes_on bytes then extend_token byte
    (line_tokens bytes) else (byte ∷ []) ∷ line_tokens bytes) other

word_space : (byte : ℕ) (word rest : List ℕ) → kind_of byte ≡ Other → AreOther word →
    line_tokens (byte ∷ (word ++ 32 ∷ rest)) ≡ (byte ∷ word) ∷ line_tokens rest
word_space byte [] rest other others = first_byte byte (32 ∷ rest) other
word_space byte (next ∷ word) rest other others =
    first_byte byte (next ∷ (word ++ 32 ∷ rest)) other
    ∙ ap (λ kind. if not (is_separator kind) then extend_token byte (line_tokens (next ∷ (word ++ 32 ∷ rest)))
    else (byte ∷ []) ∷ line_tokens (next ∷ (word ++ 32 ∷ rest))) others.0
    ∙ ap (extend_token byte) (word_space next word rest others.0 others.1)

word_end : (byte : ℕ) (word : List ℕ) → kind_of byte ≡ Other → AreOther word →
    line_tokens (byte ∷ word) ≡ (byte ∷ word) ∷ []
word_end byte [] other others = first_byte byte [] other
word_end byte (next ∷ word) other others =
    first_byte byte (next ∷ word) other
    ∙ ap (λ kind. if not (is_separator kind) then extend_token byte (line_tokens (next ∷ word)) else
    (byte ∷ []) ∷ line_tokens (next ∷ word)) others.0
    ∙ ap (extend_token byte) (word_end next word others.0 others.1)

-- words, each with a space behind it
abbrev pub spaced : List (List ℕ) → List ℕ
spaced words = flat_map (λ word. word ++ 32 ∷ []) words

abbrev pub AreWords : List (List ℕ) → Type 0
AreWords words = AllByRecursion IsWord words

spaced_word : (word : List ℕ) (rest : List ℕ) → IsWord word →
    line_tokens ((word ++ 32 ∷ []) ++ rest) ≡ word ∷ line_tokens rest
spaced_word [] rest is = absurd is
spaced_word (byte ∷ word) rest is = ap line_tokens (append_assoc (byte ∷ word) (32 ∷ []) rest)
    ∙ word_space byte word rest is.0 is.1

last_word : (word : List ℕ) → IsWord word → line_tokens word ≡ word ∷ []
last_word [] is = absurd is
last_word (byte ∷ word) is = word_end byte word is.0 is.1

pub words_tokens : (words : List (List ℕ)) (last : List ℕ) → AreWords words → IsWord last →
    line_tokens (spaced words ++ last) ≡ words ++ last ∷ []
words_tokens [] last are is = last_word last is
words_tokens (word ∷ words) last are is =
    ap line_tokens (append_assoc (word ++ 32 ∷ []) (spaced words) last)
    ∙ spaced_word word (spaced words ++ last) are.0
    ∙ ap (λ tokens. word ∷ tokens) (words_tokens words last are.1 is)

-- bytes of one line
abbrev pub AreNoFeed : List ℕ → Type 0
AreNoFeed bytes = AllByRecursion (λ byte. (byte == 10) ≡ false) bytes

feed_or_other : (byte : ℕ) (kind : ByteKind) → kind_of byte ≡ kind → kind ≡ Other → (byte == 10) ≡ true → ⊥
feed_or_other byte kind is other feed =
    let line_feed : kind_of byte ≡ LineFeed = ap kind_of (eqb-true byte 10 feed) in
    cc

no_feed : (byte : ℕ) → kind_of byte ≡ Other → (byte == 10) ≡ false
no_feed byte other =
    elim (cases_Bool (byte == 10)) [
      | inl feed ↦ absurd (feed_or_other byte (kind_of byte) refl other feed)
      | inr none ↦ none
    ]

others_no_feed : (bytes : List ℕ) → AreOther bytes → AreNoFeed bytes
others_no_feed [] are = tt
others_no_feed (byte ∷ bytes) are = (no_feed byte are.0, others_no_feed bytes are.1)

pub word_no_feed : (word : List ℕ) → IsWord word → AreNoFeed word
word_no_feed [] is = absurd is
word_no_feed (byte ∷ word) is = others_no_feed (byte ∷ word) is

pub both_no_feed : (xs ys : List ℕ) → AreNoFeed xs → AreNoFeed ys → AreNoFeed (xs ++ ys)
both_no_feed [] ys left right = right
both_no_feed (x ∷ xs) ys left right = (left.0, both_no_feed xs ys left.1 right)

pub words_no_feed : (words : List (List ℕ)) → AreWords words → AreNoFeed (spaced words)
words_no_feed [] are = tt
words_no_feed (word ∷ words) are =
    both_no_feed (word ++ 32 ∷ []) (spaced words) (both_no_feed word (32 ∷ []) (word_no_feed word are.0) (refl, tt))
    (words_no_feed words are.1)

pub digits_word : (ds : List ℕ) → 0 < length ds → AreDigits ds → IsWord ds
digits_word [] some are = absurd (omega (arith, some))
digits_word (d ∷ ds) some are = digits_other (d ∷ ds) are

pub natural_is_word : (n : ℕ) → n < 10 ^ 18 → IsWord (decimal n)
natural_is_word n small = let of = decimal_digits n small in digits_word (decimal n) of.some of.are
