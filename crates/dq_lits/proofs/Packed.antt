-- Lemmas on bits kept in words.
use Rattle.std.proofs.Common.{◌≡◌, ◌≢◌, ℕ, zero, suc, ◌/◌, ◌%◌, ◌<◌, ◌==◌, Bool, false, List, [], ◌∷◌, length, get_or, set, replicate, refl, sym, ◌∙◌, ap, arith, length-set, inl, inr}
use Rattle.std.proofs.lemmas.Bool.{cases_eq}
use Rattle.std.proofs.lemmas.Nat.Bits.{bit_at-zero}
use Rattle.std.proofs.lemmas.List.{length-replicate, get_or-replicate}
use Rattle.std.proofs.Common.{get_or-set_same, get_or-set_other}
use Rattle.std.specs.Int.{bit_at}
use Rattle.std.proofs.lemmas.List.FromFn.{length-map-range_with_len, get_or-map-range_with_len}
use Rattle.dq_lits.specs.PackedRow.{packed_bit, unpacked}

-- lists of bits that agree at each place
pub same_by_place : (xs ys : List Bool) → length xs ≡ length ys →
    ((i : ℕ) → i < length xs → get_or xs i false ≡ get_or ys i false) → xs ≡ ys
same_by_place [] [] len agree = refl
same_by_place [] (y ∷ ys) len agree = absurd (omega arith)
same_by_place (x ∷ xs) [] len agree = absurd (omega arith)
same_by_place (x ∷ xs) (y ∷ ys) len agree =
    ap (λ z. z ∷ xs) (agree 0 (omega arith))
    ∙ ap (λ zs. y ∷ zs) (same_by_place xs ys (omega arith) (λ i below. agree (suc i) (omega arith)))

pub length-unpacked : (len : ℕ) (words : List ℕ) → length (unpacked len words) ≡ len
unfolding unpacked
length-unpacked len words = length-map-range_with_len (packed_bit words) 0 len

pub get_or-unpacked : (len : ℕ) (words : List ℕ) (i : ℕ) (d : Bool) → i < len →
    get_or (unpacked len words) i d ≡ packed_bit words i
unfolding unpacked
get_or-unpacked len words i d below = get_or-map-range_with_len (packed_bit words) 0 len i i d below (omega arith)

-- bits of words that differ at one place from those of others
pub unpacked-set : (len : ℕ) (words more : List ℕ) (i : ℕ) (b : Bool) → i < len →
    packed_bit more i ≡ b → ((j : ℕ) → j ≢ i → packed_bit more j ≡ packed_bit words j) →
    unpacked len more ≡ set (unpacked len words) i b
unpacked-set len words more i b below here others =
    let old = unpacked len words in
    let inside : i < length old = rw (length-unpacked len words) below in
    same_by_place (unpacked len more) (set old i b)
    (length-unpacked len more ∙ sym (length-unpacked len words) ∙ sym (length-set old i b))
    (λ j j_below.
    let in_new : j < len = rw (length-unpacked len more) at j_below in
    get_or-unpacked len more j false in_new
    ∙ elim (cases_eq j i) [
      | inl same ↦ ap (packed_bit more) same ∙ here ∙ sym (ap (λ k. get_or (set old i b) k false) same
          ∙ get_or-set_same old i b false inside)
      | inr other ↦ others j other ∙ sym (get_or-unpacked len words j false in_new) ∙ sym
          (get_or-set_other old i j b false other)
    ])

pub unpacked-none : (len : ℕ) (words : List ℕ) → ((i : ℕ) → i < len → packed_bit words i ≡ false) →
    unpacked len words ≡ replicate len false
unpacked-none len words none =
    same_by_place (unpacked len words) (replicate len false)
    (length-unpacked len words ∙ sym (length-replicate len false))
    (λ i i_below.
    let below : i < len = rw (length-unpacked len words) at i_below in
    get_or-unpacked len words i false below ∙ none i below ∙ sym (get_or-replicate len i false false below))

-- a word written in place of another changes the bits where the words differ
pub packed_bit-set_here : (words : List ℕ) (i word : ℕ) → i / 64 < length words →
    packed_bit (set words (i / 64) word) i ≡ (bit_at word (i % 64) == 1)
packed_bit-set_here words i word inside = ap (λ w. bit_at w (i % 64) == 1)
    (get_or-set_same words (i / 64) word 0 inside)

pub packed_bit-set_other : (words : List ℕ) (i word j : ℕ) → i / 64 < length words → j ≢ i →
    ((k : ℕ) → k < 64 → k ≢ i % 64 → bit_at word k ≡ bit_at (get_or words (i / 64) 0) k) →
    packed_bit (set words (i / 64) word) j ≡ packed_bit words j
packed_bit-set_other words i word j inside other kept =
    elim (cases_eq (j / 64) (i / 64)) [
      | inl same ↦
          let apart : j % 64 ≢ i % 64 = λ e. other (omega (arith, same, e)) in
          ap (λ w. bit_at w (j % 64) == 1) (ap (λ q. get_or (set words (i / 64) word) q 0) same ∙ get_or-set_same words
          (i / 64) word 0 inside)
          ∙ ap (λ n. n == 1) (kept (j % 64) (omega arith) apart ∙ ap (λ q. bit_at (get_or words q 0) (j % 64))
          (sym same))
      | inr elsewhere ↦ ap (λ w. bit_at w (j % 64) == 1) (get_or-set_other words (i / 64) (j / 64) word 0 elsewhere)
    ]

-- a bit written into its word
pub unpacked-set_word : (len : ℕ) (words : List ℕ) (i word : ℕ) (b : Bool) → i < len → i / 64 < length words →
    (bit_at word (i % 64) == 1) ≡ b → ((k : ℕ) → k < 64 → k ≢ i % 64 →
    bit_at word k ≡ bit_at (get_or words (i / 64) 0) k) →
    unpacked len (set words (i / 64) word) ≡ set (unpacked len words) i b
unpacked-set_word len words i word b below there here kept =
    unpacked-set len words (set words (i / 64) word) i b below
    (packed_bit-set_here words i word there ∙ here)
    (λ j other. packed_bit-set_other words i word j there other kept)

zero_word : (n q : ℕ) → let word : ℕ = get_or (replicate n 0) q 0 in word ≡ 0
zero_word zero q = refl
zero_word (suc n) zero = refl
zero_word (suc n) (suc q) = zero_word n q

-- words without a bit
pub unpacked-zero : (len n : ℕ) → unpacked len (replicate n 0) ≡ replicate len false
unpacked-zero len n = unpacked-none len (replicate n 0) (λ i below. ap (λ w. bit_at w (i % 64) == 1)
    (zero_word n (i / 64)) ∙ ap (λ k. k == 1) (bit_at-zero (i % 64)))
