-- Numbers that begin a line.
use Rattle.std.proofs.Common.{◌≡◌, ℕ, zero, suc, ◌+◌, ◌*◌, ◌-◌, ◌≤◌, ◌<◌, ◌^◌, pos, negsuc, neg_ℤ, true, false, not, min, Some, None, if◌then◌else◌, ℤ, w64, to_z, of_z, List, [], ◌∷◌, ◌++◌, length, take, drop, map, length-drop, refl, ◌∙◌, ap, arith, sym}
use Rattle.std.proofs.Math.Nat.{pow-le-pow_right}
use Rattle.std.specs.Char.{is_ascii_digit}
use Rattle.std.specs.List.{list_all}
use Rattle.std.proofs.lemmas.Int.{to_z-of_z}
use Rattle.std.proofs.lemmas.List.{take-append-drop, take-take, take_all, length-take, length-take-le}
use Rattle.dq_text.specs.Bytes.{kind_of}
use Rattle.dq_text.specs.Line.{line_tokens, extend_token}
use Rattle.dq_text.specs.Number.{are_digits, decimal_value, number_of}
use Rattle.dq_text.specs.ShortNumber.{AreFewDigits, BeginsWithNatural, IsLeadingValue}
use Rattle.dq_text.specs.Token.{is_separator, goes_on}
use Rattle.dq_text.specs.declared.numbers.Number.TheVariants.{Int}
use Rattle.dq_text.specs.declared.bytes.ByteKind.TheVariants.{Other}
use Rattle.dq_text.proofs.LineWords.{IsWord, first_byte, digits_word}
use Rattle.dq_text.proofs.Numerals.{AreOther, AreDigitsOf, digits_number, negative_value, are_some}

-- so many digits have a value below 10^18
pub digits_small : (i v : ℕ) → i ≤ 18 → v < 10 ^ i → v < 10 ^ 18
digits_small i v few below = let e : 10 ^ i ≤ 10 ^ 18 = pow-le-pow_right (omega arith) few in omega (arith, below, e)

pub digit_fits : (i v d : ℕ) → i < 18 → v < 10 ^ i → d ≤ 9 → v * 10 + d < 2 ^ 64
digit_fits i v d few below digit =
    let most : i ≤ 17 = omega (arith, few) in
    let e : 10 ^ i ≤ 10 ^ 17 = pow-le-pow_right (omega arith) most in omega (arith, below, digit, e)

-- a word, where the bytes behind it don't go on
word_ends : (byte : ℕ) (word rest : List ℕ) → kind_of byte ≡ Other → AreOther word → goes_on rest ≡ false →
    line_tokens (byte ∷ (word ++ rest)) ≡ (byte ∷ word) ∷ line_tokens rest
word_ends byte [] rest other others ends =
    first_byte byte rest other
    ∙ ap (λ b. if b then extend_token byte (line_tokens rest) else (byte ∷ []) ∷ line_tokens rest) ends
word_ends byte (next ∷ word) rest other others ends =
    first_byte byte (next ∷ (word ++ rest)) other
    ∙ ap (λ kind. if not (is_separator kind) then extend_token byte (line_tokens (next ∷ (word ++ rest)))
    else (byte ∷ []) ∷ line_tokens (next ∷ (word ++ rest))) others.0
    ∙ ap (extend_token byte) (word_ends next word rest others.0 others.1 ends)

word_cut : (word rest : List ℕ) → IsWord word → goes_on rest ≡ false →
    line_tokens (word ++ rest) ≡ word ∷ line_tokens rest
word_cut [] rest is ends = absurd is
word_cut (byte ∷ word) rest is ends = word_ends byte word rest is.0 is.1 ends

digits_of : (bytes left : List ℕ) (n : ℕ) (b : BeginsWithNatural bytes n left) → AreDigitsOf n b.digits
digits_of bytes left n b = record { some = b.some; are = b.are; value = b.value_is }

pub natural_begins : (bytes left : List ℕ) (n : ℕ) → BeginsWithNatural bytes n left →
    map number_of (line_tokens bytes) ≡ Int (pos n) ∷ map number_of (line_tokens left)
natural_begins bytes left n b =
    ap (λ text. map number_of (line_tokens text)) b.parts
    ∙ ap (map number_of) (word_cut b.digits b.others (digits_word b.digits b.some b.are) b.ends)
    ∙ ap (λ number. number ∷ map number_of (line_tokens b.others))
    (digits_number b.digits n b.small (digits_of bytes left n b))
    ∙ ap (λ tokens. Int (pos n) ∷ map number_of tokens) (sym b.same)

pub minus_word : (ds : List ℕ) → IsWord ds → IsWord (45 ∷ ds)
minus_word [] is = absurd is
minus_word (d ∷ ds) is = (refl, is)

negative_begins_suc : (bytes left : List ℕ) (n : ℕ) → BeginsWithNatural bytes (suc n) left →
    map number_of (line_tokens (45 ∷ bytes)) ≡ Int (negsuc n) ∷ map number_of (line_tokens left)
negative_begins_suc bytes left n b =
    ap (λ text. map number_of (line_tokens (45 ∷ text))) b.parts
    ∙ ap (map number_of) (word_cut (45 ∷ b.digits) b.others (minus_word b.digits
    (digits_word b.digits b.some b.are)) b.ends)
    ∙ ap (λ number. number ∷ map number_of (line_tokens b.others))
    (negative_value b.digits n (are_some b.digits b.some b.are) b.value_is b.small)
    ∙ ap (λ tokens. Int (negsuc n) ∷ map number_of tokens) (sym b.same)

pub negative_begins : (bytes left : List ℕ) (n : ℕ) → 1 ≤ n → BeginsWithNatural bytes n left →
    map number_of (line_tokens (45 ∷ bytes)) ≡ Int (neg_ℤ (pos n)) ∷ map number_of (line_tokens left)
negative_begins bytes left zero some b = absurd (omega (arith, some))
negative_begins bytes left (suc n) some b = negative_begins_suc bytes left n b

-- all bytes are digits
pub leading_whole : (bytes : List ℕ) (i value : ℕ) → length bytes ≡ i → length bytes ≤ 18 →
    list_all is_ascii_digit (take i bytes) ≡ true →
    value ≡ decimal_value (take i bytes) → value < 10 ^ i → IsLeadingValue bytes value (length bytes)
leading_whole bytes i value whole few are is below =
    record {
      within = omega arith;
      are = ap (λ k. list_all is_ascii_digit (take k bytes)) whole ∙ are;
      value_is = is ∙ ap (λ k. decimal_value (take k bytes)) (sym whole);
      small = digits_small i value (omega (arith, few, whole)) below;
    }

-- what is behind the digits
pub natural_found : (bytes first rest left : List ℕ) (value count : ℕ) → first ≡ take 18 bytes →
    IsLeadingValue first value count → 1 ≤ count →
    rest ≡ drop count bytes → goes_on rest ≡ false → line_tokens left ≡ line_tokens rest →
    BeginsWithNatural bytes value left
natural_found bytes first rest left value count first_is leading some rest_is ends left_is =
    let few : count ≤ 18 = omega (arith, leading.within, ap length first_is, length-take 18 bytes) in
    let inside : count ≤ length bytes = omega (arith, leading.within, ap length first_is, length-take 18 bytes) in
    let same : take count first ≡ take count bytes = ap (take count) first_is ∙ take-take count 18 bytes few in
    record {
      digits = take count bytes;
      others = rest;
      parts = sym (take-append-drop count bytes) ∙ ap (λ more. take count bytes ++ more) (sym rest_is);
      some = omega (arith, length-take-le count bytes inside, some);
      are = ap (list_all is_ascii_digit) (sym same) ∙ leading.are;
      value_is = ap decimal_value (sym same) ∙ sym leading.value_is;
      small = leading.small;
      ends = ends;
      same = left_is;
    }

pub all_behind : (bytes : List ℕ) (n count : ℕ) → length bytes ≡ n →
    take (n - count) (drop count bytes) ≡ drop count bytes
all_behind bytes n count long = take_all (n - count) (drop count bytes) (omega (arith, length-drop count bytes, long))

pub below_limit : (n : ℤ) (v : ℕ) → v < 10 ^ 18 → n ≡ pos v → to_z w64 (of_z w64 n) ≡ pos v
below_limit n v small is = ap (λ k. to_z w64 (of_z w64 k)) is ∙ to_z-of_z w64 (pos v) (omega (arith, small))

negated_inside : (v : ℕ) → v < 10 ^ 18 → to_z w64 (of_z w64 (neg_ℤ (pos v))) ≡ neg_ℤ (pos v)
negated_inside zero small = refl
negated_inside (suc v) small = to_z-of_z w64 (negsuc v) (omega (arith, small))

pub above_limit : (n : ℤ) (v : ℕ) → v < 10 ^ 18 → n ≡ neg_ℤ (pos v) → to_z w64 (of_z w64 n) ≡ neg_ℤ (pos v)
above_limit n v small is = ap (λ k. to_z w64 (of_z w64 k)) is ∙ negated_inside v small

pub capped : (digits : List ℕ) (value : ℕ) → AreFewDigits digits value →
    Some value ≡ (if are_digits digits then Some (min (decimal_value digits) (10 ^ 18)) else None)
capped digits value few =
    let small = few.small in
    let is = few.value_is in
    let least : min (decimal_value digits) (10 ^ 18) ≡ value = omega (arith, small, is) in
    sym (ap (λ b. if b then Some (min (decimal_value digits) (10 ^ 18)) else None) few.are ∙ ap Some least)
