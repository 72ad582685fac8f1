-- Bits of words.
use Rattle.std.proofs.Common.{◌≡◌, ℕ, ◌-◌, ◌==◌, ◌<◌, not, zero, suc, refl, arith}
use Rattle.std.specs.Int.{bit_at}
use Rattle.std.proofs.lemmas.Nat.Bits.{bit_at-lt}

other : (p : ℕ) → p < 2 → (1 - p == 1) ≡ not (p == 1)
other zero h = refl
other (suc zero) h = refl
other (suc (suc p)) h = absurd (omega arith)

pub other_bit : (word b : ℕ) → (1 - bit_at word b == 1) ≡ not (bit_at word b == 1)
other_bit word b = other (bit_at word b) (bit_at-lt word b)
