-- Tokens whose bytes come one by one: what is kept of one tells its first bytes, where these are
-- all, and its number.
use Rattle.std.specs.Prelude.{ℕ, ◌+◌, ◌-◌, ◌*◌, ◌^◌, ◌==◌, min, nat_lt, pos, neg_ℤ, Bool, true, false, List, [], ◌∷◌, if◌then◌else◌}
use Rattle.std.specs.Char.{is_ascii_digit}
use Rattle.dq_text.specs.declared.numbers.Number.{Number}
use Rattle.dq_text.specs.declared.numbers.Number.TheVariants.{Int, NotANumber, TooBig}
use Rattle.dq_text.specs.declared.summaries.Head.{Head}
use Rattle.dq_text.specs.declared.summaries.Head.TheVariants.{Empty, One, Two, Three, Longer}
use Rattle.dq_text.specs.declared.summaries.Digits.{Digits}
use Rattle.dq_text.specs.declared.summaries.Digits.TheVariants.{NoDigit, Value, Mixed}
use Rattle.dq_text.specs.declared.summaries.TokenSummary.{TokenSummary}

-- the first bytes of a token, where these are all
abbrev pub head_of : List ℕ → Head
head_of [] = Empty
head_of (a ∷ []) = One a
head_of (a ∷ b ∷ []) = Two a b
head_of (a ∷ b ∷ c ∷ []) = Three a b c
head_of (a ∷ b ∷ c ∷ d ∷ bytes) = Longer

abbrev pub head_with : Head → ℕ → Head
head_with Empty byte = One byte
head_with (One a) byte = Two a byte
head_with (Two a b) byte = Three a b byte
head_with (Three a b c) byte = Longer
head_with Longer byte = Longer

abbrev pub is_begun : Head → Bool
is_begun Empty = false
is_begun (One a) = true
is_begun (Two a b) = true
is_begun (Three a b c) = true
is_begun Longer = true

abbrev pub minus_with : Head → Bool → ℕ → Bool
minus_with head minus byte = if is_begun head then minus else byte == 45

abbrev pub value_with : ℕ → ℕ → Digits
value_with value byte =
    if is_ascii_digit byte then Value (min (value * 10 + (byte - 48)) (10 ^ 18)) else Mixed

abbrev pub digits_with : Digits → ℕ → Digits
digits_with NoDigit byte = value_with 0 byte
digits_with (Value value) byte = value_with value byte
digits_with Mixed byte = Mixed

abbrev pub first_digit : ℕ → Digits
first_digit byte = if byte == 45 then NoDigit else digits_with NoDigit byte

abbrev pub digits_at : Head → Digits → ℕ → Digits
digits_at head digits byte = if is_begun head then digits_with digits byte else first_digit byte

abbrev pub no_bytes : TokenSummary
no_bytes = record { head = Empty; minus = false; digits = NoDigit }

-- with one more byte
abbrev pub grown : TokenSummary → ℕ → TokenSummary
grown token byte = record {
  head = head_with token.head byte;
  minus = minus_with token.head token.minus byte;
  digits = digits_at token.head token.digits byte;
}

abbrev pub grown_by : TokenSummary → List ℕ → TokenSummary
grown_by token [] = token
grown_by token (byte ∷ bytes) = grown_by (grown token byte) bytes

abbrev pub summary_of : List ℕ → TokenSummary
summary_of text = grown_by no_bytes text

abbrev pub number_from : Bool → Digits → Number
number_from minus NoDigit = NotANumber
number_from minus Mixed = NotANumber
number_from false (Value value) = if nat_lt value (10 ^ 18) then Int (pos value) else TooBig
number_from true (Value value) =
    if value == 0 then NotANumber else
    if nat_lt value (10 ^ 18) then Int (neg_ℤ (pos value)) else TooBig

abbrev pub summary_number : TokenSummary → Number
summary_number token = number_from token.minus token.digits
