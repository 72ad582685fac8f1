-- Numbers as texts write them: an optional `-` and one or more decimal digits.
use Rattle.std.specs.Prelude.{ℕ, ◌==◌, ◌+◌, ◌-◌, ◌*◌, ◌^◌, pos, negsuc, neg_ℤ, nat_lt, Bool, false, not, ◌&&◌, ◌||◌, List, [], ◌∷◌, Option, None, Some, if◌then◌else◌}
use Rattle.std.specs.Char.{is_ascii_digit}
use Rattle.std.specs.List.{list_all, fold}
use Rattle.dq_text.specs.declared.numbers.Number.{Number}
use Rattle.dq_text.specs.declared.numbers.Number.TheVariants.{Int, NotANumber, TooBig}

-- one or more digits
abbrev pub are_digits : List ℕ → Bool
are_digits [] = false
are_digits (digit ∷ digits) = is_ascii_digit digit && list_all is_ascii_digit digits

abbrev pub decimal_value : List ℕ → ℕ
decimal_value digits = fold (λ value digit. value * 10 + (digit - 48)) 0 digits

-- leading zeros are lawful; a magnitude of 10^18 or more is too big
abbrev pub unsigned_of : List ℕ → Number
unsigned_of digits =
    if not (are_digits digits) then NotANumber else
    if nat_lt (decimal_value digits) (10 ^ 18) then Int (pos (decimal_value digits)) else TooBig

-- the same behind a minus, where zero isn't a number
abbrev pub negative_of : List ℕ → Number
negative_of digits =
    if not (are_digits digits) || (decimal_value digits == 0) then NotANumber else
    if nat_lt (decimal_value digits) (10 ^ 18) then Int (neg_ℤ (pos (decimal_value digits)))
    else TooBig

abbrev pub number_of : List ℕ → Number
number_of [] = NotANumber
number_of (byte ∷ bytes) = if byte == 45 then negative_of bytes else unsigned_of (byte ∷ bytes)

abbrev pub begins_with_minus : List ℕ → Bool
begins_with_minus [] = false
begins_with_minus (byte ∷ _) = byte == 45

abbrev pub natural_number : Bool → Number → Option ℕ
natural_number minus NotANumber = None
natural_number minus TooBig = if minus then None else Some (10 ^ 18)
natural_number minus (Int (pos n)) = Some n
natural_number minus (Int (negsuc n)) = None

-- a token as a natural number, where 10^18 stands for every larger one
abbrev pub natural_of : List ℕ → Option ℕ
natural_of token = natural_number (begins_with_minus token) (number_of token)
