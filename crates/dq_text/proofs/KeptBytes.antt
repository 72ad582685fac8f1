-- What is kept of a token tells its first bytes, its sign and its number.
use Rattle.std.proofs.Common.{◌≡◌, ◌==◌, ℕ, ◌+◌, ◌-◌, ◌*◌, ◌^◌, min, nat_lt, Bool, true, false, not, ◌&&◌, ◌||◌, if◌then◌else◌, List, [], ◌∷◌, pos, neg_ℤ, refl, ◌∙◌, ap, ap₂, arith}
use Rattle.std.specs.Char.{is_ascii_digit}
use Rattle.std.specs.List.{list_all, fold}
use Rattle.std.proofs.lemmas.Bool.{ltb-true, ltb-false, eqb-true}
use Rattle.dq_text.specs.Number.{are_digits, decimal_value, unsigned_of, negative_of, number_of, begins_with_minus}
use Rattle.dq_text.specs.Summary.{head_of, head_with, is_begun, value_with, digits_with, first_digit, grown, grown_by, summary_of, number_from, summary_number}
use Rattle.dq_text.specs.declared.numbers.Number.TheVariants.{Int, NotANumber, TooBig}
use Rattle.dq_text.specs.declared.summaries.Head.{Head}
use Rattle.dq_text.specs.declared.summaries.Head.TheVariants.{Empty, One, Two, Three, Longer}
use Rattle.dq_text.specs.declared.summaries.Digits.{Digits}
use Rattle.dq_text.specs.declared.summaries.Digits.TheVariants.{NoDigit, Value, Mixed}
use Rattle.dq_text.specs.declared.summaries.TokenSummary.{TokenSummary}

abbrev digits_by : Digits → List ℕ → Digits
digits_by digits [] = digits
digits_by digits (byte ∷ bytes) = digits_by (digits_with digits byte) bytes

begun_stays : (head : Head) (byte : ℕ) → is_begun (head_with head byte) ≡ true
begun_stays Empty byte = refl
begun_stays (One a) byte = refl
begun_stays (Two a b) byte = refl
begun_stays (Three a b c) byte = refl
begun_stays Longer byte = refl

minus_stays : (bytes : List ℕ) (token : TokenSummary) → is_begun token.head ≡ true →
    (grown_by token bytes).minus ≡ token.minus
minus_stays [] token begun = refl
minus_stays (byte ∷ bytes) token begun =
    minus_stays bytes (grown token byte) (begun_stays token.head byte)
    ∙ ap (λ b. if b then token.minus else byte == 45) begun

digits_go_on : (bytes : List ℕ) (token : TokenSummary) → is_begun token.head ≡ true →
    (grown_by token bytes).digits ≡ digits_by token.digits bytes
digits_go_on [] token begun = refl
digits_go_on (byte ∷ bytes) token begun =
    digits_go_on bytes (grown token byte) (begun_stays token.head byte)
    ∙ ap (λ b. digits_by (if b then digits_with token.digits byte else first_digit byte) bytes) begun

longer_stays : (bytes : List ℕ) (token : TokenSummary) → token.head ≡ Longer → (grown_by token bytes).head ≡ Longer
longer_stays [] token longer = longer
longer_stays (byte ∷ bytes) token longer = longer_stays bytes (grown token byte) (ap (λ h. head_with h byte) longer)

pub head_is_kept : (text : List ℕ) → (summary_of text).head ≡ head_of text
head_is_kept [] = refl
head_is_kept (a ∷ []) = refl
head_is_kept (a ∷ b ∷ []) = refl
head_is_kept (a ∷ b ∷ c ∷ []) = refl
head_is_kept (a ∷ b ∷ c ∷ d ∷ bytes) = longer_stays bytes (summary_of (a ∷ b ∷ c ∷ d ∷ [])) refl

pub minus_is_kept : (text : List ℕ) → (summary_of text).minus ≡ begins_with_minus text
minus_is_kept [] = refl
minus_is_kept (byte ∷ bytes) = minus_stays bytes (summary_of (byte ∷ [])) refl

abbrev value_from : ℕ → List ℕ → ℕ
value_from start bytes = fold (λ value digit. value * 10 + (digit - 48)) start bytes

mixed_stays : (bytes : List ℕ) → digits_by Mixed bytes ≡ Mixed
mixed_stays [] = refl
mixed_stays (byte ∷ bytes) = mixed_stays bytes

abbrev capped : ℕ → List ℕ → Digits
capped start bytes = if list_all is_ascii_digit bytes then Value (min (value_from start bytes) (10 ^ 18)) else Mixed

by_digit : (is : Bool) (value : ℕ) (bytes : List ℕ) → digits_by (Value (min value (10 ^ 18))) bytes ≡ capped value bytes
    → digits_by (if is then Value (min value (10 ^ 18)) else Mixed) bytes
    ≡ (if is && list_all is_ascii_digit bytes then Value (min (value_from value bytes) (10 ^ 18)) else Mixed)
by_digit true value bytes h = h
by_digit false value bytes h = mixed_stays bytes

-- digits go on as their value does
digits_run : (start : ℕ) (bytes : List ℕ) → digits_by (Value (min start (10 ^ 18))) bytes ≡ capped start bytes
digits_run start [] = refl
digits_run start (byte ∷ bytes) =
    let next = start * 10 + (byte - 48) in
    let same : min (min start (10 ^ 18) * 10 + (byte - 48)) (10 ^ 18) ≡ min next (10 ^ 18) = omega arith in
    ap (λ v. digits_by (if is_ascii_digit byte then Value v else Mixed) bytes) same
    ∙ by_digit (is_ascii_digit byte) next bytes (digits_run next bytes)

first_run : (byte : ℕ) (bytes : List ℕ) → digits_by (value_with 0 byte) bytes
    ≡ (if are_digits (byte ∷ bytes) then Value (min (decimal_value (byte ∷ bytes)) (10 ^ 18)) else Mixed)
first_run byte bytes = digits_run 0 (byte ∷ bytes)

natural_from : (are small : Bool) (value : ℕ) → nat_lt value (10 ^ 18) ≡ small
    → number_from false (if are then Value (min value (10 ^ 18)) else Mixed)
    ≡ (if not are then NotANumber else if small then Int (pos value) else TooBig)
natural_from false small value h = refl
natural_from true true value h =
    let below : min value (10 ^ 18) ≡ value = omega (arith, ltb-true _ _ h) in
    ap (λ v. if nat_lt v (10 ^ 18) then Int (pos v) else TooBig) below ∙ ap
    (λ b. if b then Int (pos value) else TooBig) h
natural_from true false value h =
    let above : min value (10 ^ 18) ≡ 10 ^ 18 = omega (arith, ltb-false _ _ h) in
    ap (λ v. if nat_lt v (10 ^ 18) then Int (pos v) else TooBig) above

negative_from : (are small is_zero : Bool) (value : ℕ) → nat_lt value (10 ^ 18) ≡ small → (value == 0) ≡ is_zero
    → number_from true (if are then Value (min value (10 ^ 18)) else Mixed)
    ≡ (if not are || is_zero then NotANumber else if small then Int (neg_ℤ (pos value)) else TooBig)
negative_from false small is_zero value h h0 = refl
negative_from true small true value h h0 = ap (λ v. number_from true (Value (min v (10 ^ 18)))) (eqb-true value 0 h0)
negative_from true true false value h h0 =
    let below : min value (10 ^ 18) ≡ value = omega (arith, ltb-true _ _ h) in
    ap (λ v. number_from true (Value v)) below
    ∙ ap (λ b. if b then NotANumber else if nat_lt value (10 ^ 18) then Int (neg_ℤ (pos value)) else TooBig) h0
    ∙ ap (λ b. if b then Int (neg_ℤ (pos value)) else TooBig) h
negative_from true false false value h h0 =
    let above : min value (10 ^ 18) ≡ 10 ^ 18 = omega (arith, ltb-false _ _ h) in
    ap (λ v. number_from true (Value v)) above

behind_minus : (bytes : List ℕ) → number_from true (digits_by NoDigit bytes) ≡ negative_of bytes
behind_minus [] = refl
behind_minus (byte ∷ bytes) =
    ap (number_from true) (first_run byte bytes)
    ∙ negative_from (are_digits (byte ∷ bytes)) (nat_lt (decimal_value (byte ∷ bytes)) (10 ^ 18))
    (decimal_value (byte ∷ bytes) == 0) (decimal_value (byte ∷ bytes)) refl refl

behind_digit : (byte : ℕ) (bytes : List ℕ) → number_from false (digits_by (value_with 0 byte) bytes) ≡ unsigned_of
    (byte ∷ bytes)
behind_digit byte bytes =
    ap (number_from false) (first_run byte bytes)
    ∙ natural_from (are_digits (byte ∷ bytes)) (nat_lt (decimal_value (byte ∷ bytes)) (10 ^ 18))
    (decimal_value (byte ∷ bytes)) refl

by_sign : (is : Bool) (byte : ℕ) (bytes : List ℕ) → number_from is
    (digits_by (if is then NoDigit else digits_with NoDigit byte) bytes) ≡
    (if is then negative_of bytes else unsigned_of (byte ∷ bytes))
by_sign true byte bytes = behind_minus bytes
by_sign false byte bytes = behind_digit byte bytes

pub number_is_kept : (text : List ℕ) → summary_number (summary_of text) ≡ number_of text
number_is_kept [] = refl
number_is_kept (byte ∷ bytes) =
    ap₂ number_from (minus_stays bytes (summary_of (byte ∷ [])) refl) (digits_go_on bytes (summary_of (byte ∷ [])) refl)
    ∙ by_sign (byte == 45) byte bytes
