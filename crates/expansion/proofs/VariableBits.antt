-- The bit of a variable in a row of bits, and its place.
use Rattle.std.proofs.Common.{◌≡◌, ◌≢◌, ℕ, zero, suc, ◌+◌, ◌<◌, ◌==◌, Bool, true, false, cond, not, List, [], ◌∷◌, length, drop, get_or, position, Some, None, inl, inr, refl, sym, ap, ◌∙◌, arith}
use Rattle.std.proofs.lemmas.Bool.{cases_Bool, eqb-true, eq-eqb}
use Rattle.std.specs.List.{AllPairs, Contains, position_or_len}
use Rattle.std.proofs.lemmas.List.Quantifiers.{position-Some}
use Rattle.std.proofs.lemmas.List.Sums.{position_or_len_is}
use Rattle.dq_formula.proofs.Places.{place-absent}
use Rattle.dq_lits.specs.Row.{bit_of, assignment_of}

-- a place more, where another variable stands
pub look_further : (xs : List ℕ) (row : List Bool) (y i : ℕ) (x : ℕ) → i < length xs → get_or xs i 0 ≡ x →
    (x == y) ≡ false
    → assignment_of (drop i xs) (drop i row) y ≡ assignment_of (drop (i + 1) xs) (drop (i + 1) row) y
look_further xs row y i x lt is other = rw (add_one i) (by i xs row lt is)
  where
    add_one : (n : ℕ) → n + 1 ≡ suc n
    add_one n = omega arith

    no_bits : (ys : List ℕ) → assignment_of ys [] y ≡ false
    no_bits [] = refl
    no_bits (_ ∷ _) = refl

    by : (k : ℕ) (ys : List ℕ) (bits : List Bool) → k < length ys → get_or ys k 0 ≡ x →
        assignment_of (drop k ys) (drop k bits) y ≡ assignment_of (drop (suc k) ys) (drop (suc k) bits) y
    by k [] bits below at = absurd (omega (arith, below))
    by zero (z ∷ ys) [] below at = sym (no_bits ys)
    by zero (z ∷ ys) (b ∷ bits) below at = ap (λ w. cond (w == y) b (assignment_of ys bits y)) at ∙ ap
        (λ t. cond t b (assignment_of ys bits y)) other
    by (suc k) (z ∷ ys) [] below at = no_bits_both k (suc k) ys
      where
        no_bits_both : (m n : ℕ) (zs : List ℕ) → assignment_of (drop m zs) [] y ≡ assignment_of (drop n zs) [] y
        no_bits_both m n zs = no_bits (drop m zs) ∙ sym (no_bits (drop n zs))
    by (suc k) (z ∷ ys) (b ∷ bits) below at = by k ys bits (omega (arith, below)) at

pub looked_here : (xs : List ℕ) (row : List Bool) (y i : ℕ) (x : ℕ) → i < length xs → get_or xs i 0 ≡ x →
    (x == y) ≡ true
    → assignment_of (drop i xs) (drop i row) y ≡ bit_of row i
looked_here [] row y i x lt is here = absurd (omega (arith, lt))
looked_here (z ∷ xs) [] y zero x lt is here = refl
looked_here (z ∷ xs) (b ∷ row) y zero x lt is here = search arith
looked_here (z ∷ xs) [] y (suc i) x lt is here = no_bits (drop i xs)
  where
    no_bits : (ys : List ℕ) → assignment_of ys [] y ≡ false
    no_bits [] = refl
    no_bits (_ ∷ _) = refl
looked_here (z ∷ xs) (b ∷ row) y (suc i) x lt is here = looked_here xs row y i x (omega (arith, lt)) is here

pub differs : (x y : ℕ) → (x ≡ y → ⊥) → (x == y) ≡ false
differs x y not = elim (cases_Bool (x == y)) [ inl same ↦ absurd (not (eqb-true x y same)) | inr other ↦ other ]

-- the bit at a place, where the variables are distinct
pub bit_at_place : (xs : List ℕ) (row : List Bool) (y p : ℕ) → AllPairs (λ v w. v ≢ w) xs → p < length xs →
    get_or xs p 0 ≡ y → assignment_of xs row y ≡ bit_of row p
bit_at_place [] row y p once below is = absurd (omega (arith, below))
bit_at_place (x ∷ xs) [] y p once below is = refl
bit_at_place (x ∷ xs) (b ∷ row) y zero once below is = ap (λ t. cond t b (assignment_of xs row y)) (eq-eqb x y is)
bit_at_place (x ∷ xs) (b ∷ row) y (suc p) once below is =
    ap (λ t. cond t b (assignment_of xs row y)) (differs x y
    (λ e. once 0 (suc p) 0 (omega arith) (omega (arith, below)) (e ∙ sym is)))
    ∙ bit_at_place xs row y p (λ i j d order inside. once (suc i) (suc j) d (omega (arith, order))
    (omega (arith, inside))) (omega (arith, below)) is

-- the place of a variable
pub place_of_variable : (xs : List ℕ) (y p : ℕ) → AllPairs (λ v w. v ≢ w) xs → p < length xs → get_or xs p 0 ≡ y →
    p ≡ position_or_len (λ v. v == y) xs
place_of_variable xs y p once below is = search (arith, position_or_len_is)

pub place_found : (xs : List ℕ) (y p : ℕ) → position (λ v. v == y) xs ≡ Some p → p ≡ position_or_len (λ v. v == y) xs
place_found xs y p found = search (arith, position-Some, position_or_len_is)

pub place_missing : (xs : List ℕ) (y n : ℕ) → n ≡ length xs → position (λ v. v == y) xs ≡ None →
    n ≡ position_or_len (λ v. v == y) xs
place_missing xs y n many none = many ∙ sym (place-absent (λ v. v == y) xs none)

pub place_within : (xs : List ℕ) (y : ℕ) → Contains xs y → position_or_len (λ v. v == y) xs < length xs
place_within [] y (k, below, is) = absurd (omega (arith, below))
place_within (x ∷ xs) y (zero, below, is) = rw (eq-eqb x y is) (omega arith)
place_within (x ∷ xs) y (suc k, below, is) = search (arith, (place_within xs y))
