-- Numbers that begin some bytes.
use Rattle.std.specs.Prelude.{◌≡◌, ℕ, ℤ, ◌<◌, ◌≤◌, ◌^◌, true, false, List, ◌++◌, length, take}
use Rattle.std.specs.Char.{is_ascii_digit}
use Rattle.std.specs.List.{AllByRecursion, list_all}
use Rattle.dq_text.specs.Bytes.{kind_of}
use Rattle.dq_text.specs.Line.{line_tokens}
use Rattle.dq_text.specs.Number.{are_digits, decimal_value, number_of}
use Rattle.dq_text.specs.Pieces.{begins_with_separator}
use Rattle.dq_text.specs.Token.{goes_on}
use Rattle.dq_text.specs.declared.bytes.ByteKind.TheVariants.{Other}
use Rattle.dq_text.specs.declared.numbers.Number.TheVariants.{Int}

-- the first bytes, so many, are digits with this value
pub record IsLeadingValue (bytes : List ℕ) (value count : ℕ) : Type 0 where
  pub within : count ≤ length bytes
  pub are : list_all is_ascii_digit (take count bytes) ≡ true
  pub value_is : value ≡ decimal_value (take count bytes)
  pub small : value < 10 ^ 18

-- these are digits with this value
pub record AreFewDigits (digits : List ℕ) (value : ℕ) : Type 0 where
  pub are : are_digits digits ≡ true
  pub value_is : value ≡ decimal_value digits
  pub small : value < 10 ^ 18

-- these bytes are digits with this value, and then others, in which the token doesn't go on, with
-- the tokens of what is left
pub record BeginsWithNatural (bytes : List ℕ) (value : ℕ) (left : List ℕ) : Type 0 where
  pub digits : List ℕ
  pub others : List ℕ
  pub parts : bytes ≡ digits ++ others
  pub some : 0 < length digits
  pub are : list_all is_ascii_digit digits ≡ true
  pub value_is : decimal_value digits ≡ value
  pub small : value < 10 ^ 18
  pub ends : goes_on others ≡ false
  pub same : line_tokens left ≡ line_tokens others

-- these bytes are digits with this value, and then others, which begin with a separator
pub record EndsNatural (bytes : List ℕ) (value : ℕ) (behind : List ℕ) : Type 0 where
  pub digits : List ℕ
  pub parts : bytes ≡ digits ++ behind
  pub some : 0 < length digits
  pub are : list_all is_ascii_digit digits ≡ true
  pub value_is : decimal_value digits ≡ value
  pub small : value < 10 ^ 18
  pub ends : begins_with_separator behind ≡ true

-- these bytes are a token without the letter c that is this number, and then others, which begin
-- with a separator
pub record EndsNumber (bytes : List ℕ) (n : ℤ) (behind : List ℕ) : Type 0 where
  pub text : List ℕ
  pub parts : bytes ≡ text ++ behind
  pub some : 0 < length text
  pub plain : AllByRecursion (λ byte. kind_of byte ≡ Other) text
  pub number : number_of text ≡ Int n
  pub ends : begins_with_separator behind ≡ true
