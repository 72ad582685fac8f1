-- The decimal text of a number: it is one word, and is read as the number.
use Rattle.std.proofs.Common.{◌≡◌, ◌==◌, ℕ, zero, suc, ◌+◌, ◌-◌, ◌*◌, ◌^◌, ◌≤◌, ◌<◌, nat_lt, true, not, ◌||◌, if◌then◌else◌, List, [], ◌∷◌, length, pos, negsuc, neg_ℤ, refl, ◌∙◌, ap, arith}
use Rattle.std.specs.Char.{is_ascii_digit}
use Rattle.std.specs.Fmt.{decimal}
use Rattle.std.specs.List.{AllByRecursion, list_all, fold}
use Rattle.std.proofs.lemmas.Bool.{and_from, and_parts, ne_eqb, leb-true, le-leb, lt-ltb}
use Rattle.std.proofs.lemmas.Fmt.{decimal_nonempty, digits_decimal, digits_value-decimal}
use Rattle.std.proofs.lemmas.Str.Parse.{IsDigitsTest, IsNumeralModel, FoldsDigits, numerals_by_fold}
use Rattle.dq_text.specs.Bytes.{kind_of}
use Rattle.dq_text.specs.Number.{are_digits, decimal_value, unsigned_of, negative_of, number_of}
use Rattle.dq_text.specs.declared.bytes.ByteKind.TheVariants.{Blank, LineFeed, LetterC, Other}
use Rattle.dq_text.specs.declared.numbers.Number.TheVariants.{Int, NotANumber, TooBig}

-- bytes inside a word
abbrev pub AreOther : List ℕ → Type 0
AreOther bytes = AllByRecursion (λ byte. kind_of byte ≡ Other) bytes

abbrev pub AreDigits : List ℕ → Type 0
AreDigits ds = list_all is_ascii_digit ds ≡ true

pub tells : IsDigitsTest AreDigits
tells = record {
  empty = refl;
  parts = λ c cs e.
      let both = and_parts (is_ascii_digit c) (list_all is_ascii_digit cs) e in
      let range = and_parts _ _ both.0 in
      ((leb-true 48 c range.0, leb-true c 57 range.1), both.1);
  more = λ c cs k e. and_from _ _ (and_from _ _ (le-leb 48 c k.0) (le-leb c 57 k.1)) e;
}

folds : FoldsDigits (λ start digits. fold (λ value digit. value * 10 + (digit - 48)) start digits)
folds = record { empty = λ n. refl; more = λ n c cs k. refl }

model : IsNumeralModel AreDigits decimal_value
model = numerals_by_fold AreDigits tells (λ start digits. fold
    (λ value digit. value * 10 + (digit - 48)) start digits) folds

digit_kind : (d : ℕ) → 48 ≤ d → d ≤ 57 → kind_of d ≡ Other
digit_kind d low high =
    ap (λ b. if b || (d == 9 || d == 13) then Blank else if d == 10 then LineFeed else if d == 99 then LetterC else
    Other) (ne_eqb d 32 (λ h. omega arith))
    ∙ ap (λ b. if b || d == 13 then Blank else if d == 10 then LineFeed else if d == 99 then LetterC else Other)
    (ne_eqb d 9 (λ h. omega arith))
    ∙ ap (λ b. if b then Blank else if d == 10 then LineFeed else if d == 99 then LetterC else Other)
    (ne_eqb d 13 (λ h. omega arith))
    ∙ ap (λ b. if b then LineFeed else if d == 99 then LetterC else Other) (ne_eqb d 10 (λ h. omega arith))
    ∙ ap (λ b. if b then LetterC else Other) (ne_eqb d 99 (λ h. omega arith))

pub digits_other : (ds : List ℕ) → AreDigits ds → AreOther ds
digits_other [] are = tt
digits_other (d ∷ ds) are = let range = tells.parts d ds are in
    (digit_kind d range.0.0 range.0.1, digits_other ds range.1)

-- what is known of the digits of a number
pub record AreDigitsOf (n : ℕ) (digits : List ℕ) : Type 0 where
  pub some : 0 < length digits
  pub are : AreDigits digits
  pub value : decimal_value digits ≡ n

pub decimal_digits : (n : ℕ) → n < 10 ^ 18 → AreDigitsOf n (decimal n)
decimal_digits n small =
    let wide : n < 2 ^ 64 = omega arith in
    record {
      some = decimal_nonempty n wide;
      are = digits_decimal model n wide;
      value = digits_value-decimal model n wide;
    }

natural_value : (digits : List ℕ) (n : ℕ) → are_digits digits ≡ true → decimal_value digits ≡ n → n < 10 ^ 18 →
    unsigned_of digits ≡ Int (pos n)
natural_value digits n are is small =
    ap (λ b. if not b then NotANumber else if nat_lt (decimal_value digits) (10 ^ 18) then Int
    (pos (decimal_value digits)) else TooBig) are
    ∙ ap (λ v. if nat_lt v (10 ^ 18) then Int (pos v) else TooBig) is
    ∙ ap (λ b. if b then Int (pos n) else TooBig) (lt-ltb n (10 ^ 18) small)

pub digits_number : (ds : List ℕ) (n : ℕ) → n < 10 ^ 18 → AreDigitsOf n ds → number_of ds ≡ Int (pos n)
digits_number [] n small of = let some = of.some in absurd (omega (arith, some))
digits_number (d ∷ ds) n small of =
    let range = tells.parts d ds of.are in
    ap (λ minus. if minus then negative_of ds else unsigned_of (d ∷ ds)) (ne_eqb d 45 (λ h. omega (arith, range.0.0)))
    ∙ natural_value (d ∷ ds) n of.are of.value small

pub natural_is_read : (n : ℕ) → n < 10 ^ 18 → number_of (decimal n) ≡ Int (pos n)
natural_is_read n small = digits_number (decimal n) n small (decimal_digits n small)

pub negative_value : (digits : List ℕ) (n : ℕ) → are_digits digits ≡ true → decimal_value digits ≡ suc n →
    suc n < 10 ^ 18 →
    negative_of digits ≡ Int (negsuc n)
negative_value digits n are is small =
    ap (λ b. if not b || (decimal_value digits == 0) then NotANumber
    else if nat_lt (decimal_value digits) (10 ^ 18) then Int (neg_ℤ (pos (decimal_value digits))) else TooBig) are
    ∙ ap (λ v. if v == 0 then NotANumber else if nat_lt v (10 ^ 18) then Int (neg_ℤ (pos v)) else TooBig) is
    ∙ ap (λ b. if b then NotANumber else if nat_lt (suc n) (10 ^ 18) then Int (neg_ℤ (pos (suc n))) else TooBig)
    (ne_eqb (suc n) 0 (λ h. omega (arith, h)))
    ∙ ap (λ b. if b then Int (neg_ℤ (pos (suc n))) else TooBig) (lt-ltb (suc n) (10 ^ 18) small)

pub are_some : (ds : List ℕ) → 0 < length ds → AreDigits ds → are_digits ds ≡ true
are_some [] some are = absurd (omega (arith, some))
are_some (d ∷ ds) some are = are

pub negative_is_read : (n : ℕ) → suc n < 10 ^ 18 → number_of (45 ∷ decimal (suc n)) ≡ Int (negsuc n)
negative_is_read n small =
    let of = decimal_digits (suc n) small in
    negative_value (decimal (suc n)) n (are_some (decimal (suc n)) of.some of.are) of.value small

pub minus_is_read : (n : ℕ) → 1 ≤ n → n < 10 ^ 18 → number_of (45 ∷ decimal n) ≡ Int (neg_ℤ (pos n))
minus_is_read zero some small = absurd (omega (arith, some))
minus_is_read (suc n) some small = negative_is_read n small
