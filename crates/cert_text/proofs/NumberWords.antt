-- What the words of a written number are as numbers.
use Rattle.std.proofs.Common.{◌≡◌, ℕ, zero, suc, ◌^◌, ◌≤◌, ◌<◌, Bool, true, false, List, ◌∷◌, arith}
use Rattle.std.specs.Fmt.{decimal}
use Rattle.dq_text.proofs.LineWords.{IsWord, natural_is_word}
use Rattle.dq_text.proofs.Numerals.{natural_is_read, negative_is_read}
use Rattle.dq_text.specs.Number.{number_of}
use Rattle.dq_text.specs.declared.numbers.Number.TheVariants.{Int}
use Rattle.dq_text.proofs.ShortNumbers.{minus_word}
use Rattle.cert_text.specs.Grammar.{signed}

-- a variable behind its sign
abbrev pub signed_word : Bool → ℕ → List ℕ
signed_word true v = decimal v
signed_word false v = 45 ∷ decimal v

-- a variable that a text can spell
abbrev pub IsSpellable : ℕ → Type 0
IsSpellable v = (1 ≤ v) × (v < 10 ^ 18)

pub signed_is_word : (b : Bool) (v : ℕ) → IsSpellable v → IsWord (signed_word b v)
signed_is_word true v is = natural_is_word v is.1
signed_is_word false v is = minus_word (decimal v) (natural_is_word v is.1)

pub signed_number_is : (b : Bool) (v : ℕ) → IsSpellable v → number_of (signed_word b v) ≡ Int (signed b v)
signed_number_is true v is = natural_is_read v is.1
signed_number_is false zero is = absurd (omega (arith, is.0))
signed_number_is false (suc n) is = negative_is_read n is.1
