-- The bits of neighbouring numbers.
use Rattle.std.proofs.Common.{◌≡◌, ℕ, zero, suc, ◌+◌, ◌*◌, ◌/◌, ◌-◌, ◌%◌, ◌^◌, ◌<◌, ◌≤◌, ◌==◌, inl, inr, Bool, true, ◌&&◌, List, [], ◌∷◌, replicate, get_or, refl, sym, ap, ◌∙◌, arith, false}
use Rattle.std.specs.Int.{bit_at}
use Rattle.std.proofs.lemmas.Nat.{shr-shr}
use Rattle.std.proofs.lemmas.Nat.Bits.{bit_at-lt}
use Rattle.std.proofs.lemmas.Bool.{cases_eq, eqb-true, false≢true}
use Rattle.std.proofs.lemmas.Simd.{get_or-replicate}
use Rattle.circuit_plain.specs.Blocks.{lane_bit}
use Rattle.circuit_plain.proofs.LaneLaws.{splat_bit}

abbrev pub all_below : (ℕ → Bool) → ℕ → Bool
all_below t zero = true
all_below t (suc n) = t n && all_below t n

and_left : (a b : Bool) → (a && b) ≡ true → a ≡ true
and_left true b h = refl
and_left false b h = h

and_right : (a b : Bool) → (a && b) ≡ true → b ≡ true
and_right true b h = h
and_right false b h = absurd (false≢true h)

pub each_below : (t : ℕ → Bool) (n : ℕ) → all_below t n ≡ true → (i : ℕ) → i < n → t i ≡ true
each_below t zero h i below = absurd (omega arith)
each_below t (suc n) h i below =
    elim (cases_eq i n) [
      | inl e ↦ rw e (and_left (t n) (all_below t n) h)
      | inr other ↦ each_below t n (and_right (t n) (all_below t n) h) i (omega arith)
    ]

abbrev words : List ℕ
words =
    0xAAAA_AAAA_AAAA_AAAA ∷ 0xCCCC_CCCC_CCCC_CCCC ∷ 0xF0F0_F0F0_F0F0_F0F0
    ∷ 0xFF00_FF00_FF00_FF00 ∷ 0xFFFF_0000_FFFF_0000 ∷ 0xFFFF_FFFF_0000_0000 ∷ []

abbrev is_word_bit : ℕ → ℕ → Bool
is_word_bit i b = bit_at (get_or words i 0) b == bit_at b i

word_bits : all_below (λ i. all_below (is_word_bit i) 64) 6 ≡ true
word_bits = refl

word_bit : (i b : ℕ) → i < 6 → b < 64 → bit_at (get_or words i 0) b ≡ bit_at b i
word_bit i b i_below b_below =
    eqb-true _ _ (each_below (is_word_bit i) 64 (each_below (λ i. all_below (is_word_bit i) 64) 6 word_bits i i_below) b
    b_below)

low_bit : (q b i : ℕ) → b < 64 → i < 6 → bit_at (64 * q + b) i ≡ bit_at b i
low_bit q b zero b_below i_below = omega arith
low_bit q b (suc zero) b_below i_below = omega arith
low_bit q b (suc (suc zero)) b_below i_below = omega arith
low_bit q b (suc (suc (suc zero))) b_below i_below = omega arith
low_bit q b (suc (suc (suc (suc zero)))) b_below i_below = omega arith
low_bit q b (suc (suc (suc (suc (suc zero))))) b_below i_below = omega arith
low_bit q b (suc (suc (suc (suc (suc (suc i)))))) b_below i_below = absurd (omega arith)

lane_parity : (l b : ℕ) → l < 4 → b < 64
    → lane_bit (0 ∷ 18446744073709551615 ∷ 0 ∷ 18446744073709551615 ∷ []) l b ≡ (l % 2 == 1)
lane_parity zero b below b_below = ap (λ n. n == 1) (splat_bit 0 b (omega arith) b_below)
lane_parity (suc zero) b below b_below = ap (λ n. n == 1) (splat_bit 1 b (omega arith) b_below)
lane_parity (suc (suc zero)) b below b_below = ap (λ n. n == 1) (splat_bit 0 b (omega arith) b_below)
lane_parity (suc (suc (suc zero))) b below b_below = ap (λ n. n == 1) (splat_bit 1 b (omega arith) b_below)
lane_parity (suc (suc (suc (suc l)))) b below b_below = absurd (omega arith)

lane_half : (l b : ℕ) → l < 4 → b < 64
    → lane_bit (0 ∷ 0 ∷ 18446744073709551615 ∷ 18446744073709551615 ∷ []) l b ≡ (l / 2 == 1)
lane_half zero b below b_below = ap (λ n. n == 1) (splat_bit 0 b (omega arith) b_below)
lane_half (suc zero) b below b_below = ap (λ n. n == 1) (splat_bit 0 b (omega arith) b_below)
lane_half (suc (suc zero)) b below b_below = ap (λ n. n == 1) (splat_bit 1 b (omega arith) b_below)
lane_half (suc (suc (suc zero))) b below b_below = ap (λ n. n == 1) (splat_bit 1 b (omega arith) b_below)
lane_half (suc (suc (suc (suc l)))) b below b_below = absurd (omega arith)

module _ (first l b : ℕ) (whole : first % 256 ≡ 0) (l_below : l < 4) (b_below : b < 64) where
  pub low_pattern : (place : ℕ) → place < 6
      → lane_bit (replicate 4 (get_or words place 0)) l b ≡ (bit_at (first + 64 * l + b) place == 1)
  low_pattern place below =
      let same : 64 * (first / 64 + l) + b ≡ first + 64 * l + b = omega arith in
      ap (λ w. bit_at w b == 1) (get_or-replicate 4 l (get_or words place 0) 0 l_below)
      ∙ ap (λ n. n == 1)
      (word_bit place b below b_below ∙ sym (low_bit (first / 64 + l) b place b_below below) ∙ ap
      (λ n. bit_at n place) same)

  pub high_pattern : (place : ℕ) → 8 ≤ place
      → lane_bit (replicate 4 (first / 2 ^ place % 2 * 18446744073709551615)) l b ≡
      (bit_at (first + 64 * l + b) place == 1)
  high_pattern place high =
      let k : ℕ = place - 8 in
      let sum : 8 + k ≡ place = omega arith in
      let shifted : (n : ℕ) → n / 256 / 2 ^ k ≡ n / 2 ^ place = λ n. shr-shr n 8 k ∙ ap (λ p. n / 2 ^ p) sum in
      let same : first / 256 ≡ (first + 64 * l + b) / 256 = omega arith in
      let bit : first / 2 ^ place ≡ (first + 64 * l + b) / 2 ^ place =
      sym (shifted first) ∙ ap (λ n. n / 2 ^ k) same ∙ shifted (first + 64 * l + b) in
      let s : ℕ = first / 2 ^ place % 2 in
      ap (λ w. bit_at w b == 1) (get_or-replicate 4 l (s * 18446744073709551615) 0 l_below)
      ∙ ap (λ n. n == 1) (splat_bit s b (bit_at-lt first place) b_below ∙ ap (λ n. n % 2) bit)

  pub parity_pattern : (place : ℕ) → place ≡ 6
      → lane_bit (0 ∷ 18446744073709551615 ∷ 0 ∷ 18446744073709551615 ∷ []) l b ≡
      (bit_at (first + 64 * l + b) place == 1)
  parity_pattern place is =
      let bit : l % 2 ≡ bit_at (first + 64 * l + b) 6 = omega arith in
      lane_parity l b l_below b_below ∙ ap (λ n. n == 1) (bit ∙ ap (bit_at (first + 64 * l + b)) (sym is))

  pub half_pattern : (place : ℕ) → place ≡ 7
      → lane_bit (0 ∷ 0 ∷ 18446744073709551615 ∷ 18446744073709551615 ∷ []) l b ≡
      (bit_at (first + 64 * l + b) place == 1)
  half_pattern place is =
      let bit : l / 2 ≡ bit_at (first + 64 * l + b) 7 = omega arith in
      lane_half l b l_below b_below ∙ ap (λ n. n == 1) (bit ∙ ap (bit_at (first + 64 * l + b)) (sym is))
