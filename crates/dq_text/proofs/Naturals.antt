-- A token as a natural number, and as what the grammar spells.
use Rattle.std.proofs.Common.{◌≡◌, ℕ, ◌<◌, ◌^◌, Bool, true, false, pos, negsuc, List, Some, ap, arith}
use Rattle.dq_text.specs.Number.{number_of, begins_with_minus, natural_number, natural_of}
use Rattle.dq_text.specs.declared.numbers.Number.{Number}
use Rattle.dq_text.specs.declared.numbers.Number.TheVariants.{Int, NotANumber, TooBig}

pub natural_taken : (token : List ℕ) (n : ℕ) → number_of token ≡ Int (pos n) → natural_of token ≡ Some n
natural_taken token n is = ap (natural_number (begins_with_minus token)) is

natural_is : (minus : Bool) (number : Number) (n : ℕ) → natural_number minus number ≡ Some n → n < 10 ^ 18 →
    number ≡ Int (pos n)
natural_is minus NotANumber n h small = cc
natural_is true TooBig n h small = cc
natural_is false TooBig n h small = let e : 10 ^ 18 ≡ n = cc in absurd (omega arith)
natural_is minus (Int (pos m)) n h small = let e : m ≡ n = cc in ap (λ k. Int (pos k)) e
natural_is minus (Int (negsuc m)) n h small = cc

pub natural_spelled : (token : List ℕ) (n : ℕ) → natural_of token ≡ Some n → n < 10 ^ 18 → number_of token ≡ Int (pos n)
natural_spelled token n is small = natural_is (begins_with_minus token) (number_of token) n is small
