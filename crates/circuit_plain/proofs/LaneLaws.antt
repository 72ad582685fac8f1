-- Bits of lanes.
use Rattle.std.proofs.Common.{◌≡◌, ℕ, zero, suc, ◌+◌, ◌*◌, ◌%◌, ◌<◌, ◌==◌, ◌⊎◌, inl, inr, not, ◌&&◌, ◌||◌, if◌then◌else◌, List, length, replicate, get_or, min, refl, ap, ◌∙◌, arith, bit_and, bit_or, bit_xor}
use Rattle.std.specs.Int.{bit_at}
use Rattle.std.proofs.lemmas.Nat.Bits.{bit_at_and, bit_at_or, bit_at_xor, bit_at-lt, bit_at-zero, bit_at_ones}
use Rattle.std.proofs.lemmas.Simd.{get_or-zip2, get_or-replicate}
use Rattle.list_laws.proofs.Numbers.{most_bit}
use lib.Lanes.{zip2}
use Rattle.circuit_plain.specs.Blocks.{lane_bit}
use Rattle.circuit_plain.specs.Netlist.{signed_bit}

pub is_bit : (p : ℕ) → p < 2 → (p ≡ 0) ⊎ (p ≡ 1)
is_bit zero h = inl refl
is_bit (suc zero) h = inr refl
is_bit (suc (suc p)) h = absurd (omega arith)

least_bit : (p q : ℕ) → p < 2 → q < 2 → (min p q == 1) ≡ ((p == 1) && (q == 1))
least_bit p q p_bit q_bit =
    elim (is_bit p p_bit) [
      | inl e ↦ elim (is_bit q q_bit) [ inl d ↦ rw (e, d) refl | inr d ↦ rw (e, d) refl ]
      | inr e ↦ elim (is_bit q q_bit) [ inl d ↦ rw (e, d) refl | inr d ↦ rw (e, d) refl ]
    ]

pub both_bits : (x y : List ℕ) (l b : ℕ) → length x ≡ 4 → length y ≡ 4 → l < 4
    → lane_bit (zip2 bit_and x y) l b ≡ (lane_bit x l b && lane_bit y l b)
both_bits x y l b x_four y_four below =
    let p = get_or x l 0 in
    let q = get_or y l 0 in
    ap (λ w. bit_at w b == 1) (get_or-zip2 bit_and x y l 0 0 0 (omega arith) (omega arith))
    ∙ ap (λ w. w == 1) (bit_at_and p q b)
    ∙ least_bit (bit_at p b) (bit_at q b) (bit_at-lt p b) (bit_at-lt q b)

pub either_bits : (x y : List ℕ) (l b : ℕ) → length x ≡ 4 → length y ≡ 4 → l < 4
    → lane_bit (zip2 bit_or x y) l b ≡ (lane_bit x l b || lane_bit y l b)
either_bits x y l b x_four y_four below =
    let p = get_or x l 0 in
    let q = get_or y l 0 in
    ap (λ w. bit_at w b == 1) (get_or-zip2 bit_or x y l 0 0 0 (omega arith) (omega arith))
    ∙ ap (λ w. w == 1) (bit_at_or p q b)
    ∙ most_bit (bit_at p b) (bit_at q b) (bit_at-lt p b) (bit_at-lt q b)

-- all bits of a lane are 0 or all are 1
pub splat_bit : (s b : ℕ) → s < 2 → b < 64 → bit_at (s * 18446744073709551615) b ≡ s
splat_bit s b s_bit below =
    elim (is_bit s s_bit) [
      | inl e ↦ rw e (bit_at-zero b)
      | inr e ↦ rw e (bit_at_ones 64 b below)
    ]

flipped : (p s : ℕ) → p < 2 → s < 2 → ((p + s) % 2 == 1) ≡ (if s == 1 then not (p == 1) else (p == 1))
flipped p s p_bit s_bit =
    elim (is_bit p p_bit) [
      | inl e ↦ elim (is_bit s s_bit) [ inl d ↦ rw (e, d) refl | inr d ↦ rw (e, d) refl ]
      | inr e ↦ elim (is_bit s s_bit) [ inl d ↦ rw (e, d) refl | inr d ↦ rw (e, d) refl ]
    ]

pub signed_bits : (x : List ℕ) (literal l b : ℕ) → length x ≡ 4 → l < 4 → b < 64
    → lane_bit (zip2 bit_xor x (replicate 4 (literal % 2 * 18446744073709551615))) l b ≡ signed_bit literal
    (lane_bit x l b)
signed_bits x literal l b four below b_below =
    let w = literal % 2 * 18446744073709551615 in
    let p = get_or x l 0 in
    let s_bit : literal % 2 < 2 = omega arith in
    ap (λ n. bit_at n b == 1)
    (get_or-zip2 bit_xor x (replicate 4 w) l 0 0 0 (omega arith) below ∙ ap (bit_xor p)
    (get_or-replicate 4 l w 0 below))
    ∙ ap (λ n. n == 1) (bit_at_xor p w b ∙ ap (λ n. (bit_at p b + n) % 2) (splat_bit (literal % 2) b s_bit b_below))
    ∙ flipped (bit_at p b) (literal % 2) (bit_at-lt p b) s_bit
