-- The bits that a row gives to variables, and lists of bits that agree.
use Rattle.std.proofs.Common.{◌≡◌, ℕ, zero, suc, ◌-◌, ◌≤◌, ◌<◌, Bool, true, false, not, List, [], ◌∷◌, length, map, take, get_or, refl, sym, arith, eqb, true≢false, ◌&&◌, replicate, length-append, length-take, get_or-take}
use Rattle.dq_formula.proofs.Places.{place, place-get_or}
use Rattle.std.proofs.lemmas.List.{ext_get_or, get_or-map, length-replicate}
use Rattle.std.specs.Bool.{beq}
use Rattle.std.specs.List.{IsDistinct}
use Rattle.dq_lits.specs.Row.{bit_of, assignment_of}
use Rattle.dq_formula.specs.Dependencies.{padded}
use Rattle.dq_lits.specs.Henkin.{same_bit, same_bits}

pub assignment_of-place : (us : List ℕ) (row : List Bool) (x : ℕ) → length row ≡ length us →
    get_or row (place us x) false ≡ assignment_of us row x
assignment_of-place [] [] x e = refl
assignment_of-place [] (b ∷ bits) x e = absurd (omega (arith, e))
assignment_of-place (u ∷ us) [] x e = absurd (omega (arith, e))
assignment_of-place (u ∷ us) (b ∷ bits) x e = search (arith, (assignment_of-place us bits x))

-- lists that agree at each place
pub same_bits-from_places : (xs ys : List Bool) → length xs ≡ length ys →
    ((k : ℕ) → k < length xs → get_or xs k false ≡ get_or ys k false) → same_bits xs ys ≡ true
same_bits-from_places [] [] e h = refl
same_bits-from_places [] (y ∷ ys) e h = absurd (omega (arith, e))
same_bits-from_places (x ∷ xs) [] e h = absurd (omega (arith, e))
same_bits-from_places (x ∷ xs) (y ∷ ys) e h =
    let rest = same_bits-from_places xs ys (omega (arith, e)) (λ k l. h (suc k) (omega arith)) in
    rw (h 0 (omega arith), rest) (self y)
  where
    self : (b : Bool) → (same_bit b b && true) ≡ true
    self true = refl
    self false = refl

-- lists that differ at a place
pub same_bits-from_difference : (xs ys : List Bool) (k : ℕ) → (get_or xs k false ≡ get_or ys k false → ⊥) →
    same_bits xs ys ≡ false
same_bits-from_difference [] [] k h = absurd (h refl)
same_bits-from_difference [] (y ∷ ys) k h = refl
same_bits-from_difference (x ∷ xs) [] k h = refl
same_bits-from_difference (x ∷ xs) (y ∷ ys) zero h = search arith
same_bits-from_difference (x ∷ xs) (y ∷ ys) (suc k) h = search (arith, (same_bits-from_difference xs ys k h))

-- padding changes no bit
pub bit_of-padded : (n : ℕ) (bits : List Bool) (i : ℕ) → bit_of (padded n bits) i ≡ bit_of bits i
bit_of-padded n [] i = none (n - 0) i
  where
    none : (k i : ℕ) → get_or (replicate k false) i false ≡ false
    none zero i = refl
    none (suc k) zero = refl
    none (suc k) (suc i) = none k i
bit_of-padded zero (b ∷ bits) zero = refl
bit_of-padded (suc n) (b ∷ bits) zero = refl
bit_of-padded n (b ∷ bits) (suc i) = search (arith, (bit_of-padded (n - 1) bits i))

pub length-padded : (n : ℕ) (bits : List Bool) → length bits ≤ n → length (padded n bits) ≡ n
length-padded n bits le = search (arith, length-append, replicate, length-replicate)

-- a list of that length with those bits
pub padded-is : (n : ℕ) (bits out : List Bool) → length out ≡ n → length bits ≤ n →
    ((k : ℕ) → k < n → bit_of out k ≡ bit_of bits k) → out ≡ padded n bits
padded-is n bits out size le same =
    search (arith, (ext_get_or false out), (length-padded n bits le), (bit_of-padded n bits))

-- the bits that a set of the first n universals sees
pub bit-first : (us : List ℕ) (row : List Bool) (n i : ℕ) → IsDistinct eqb us → length row ≡ length us →
    n ≤ length us → i < n
    → bit_of row i ≡ bit_of (map (assignment_of us row) (take n us)) i
bit-first us row n i distinct size le l =
    search (
      arith,
      (length-take n us),
      get_or-map,
      (get_or-take n us i 0 l),
      (assignment_of-place us row (get_or us i 0) size),
      (place-get_or us i 0 distinct),
    )

-- and those that a listed set sees
pub bit-listed : (us vs : List ℕ) (row : List Bool) (i x : ℕ) → length row ≡ length us → i < length vs →
    x ≡ get_or vs i x
    → bit_of row (place us x) ≡ bit_of (map (assignment_of us row) vs) i
bit-listed us vs row i x size l at = search (arith, assignment_of-place, get_or-map)

-- `!=` on bits
pub differs : (a b : Bool) → not (beq a b) ≡ true → a ≡ b → ⊥
differs true true h e = true≢false (sym h)
differs true false h e = true≢false e
differs false true h e = true≢false (sym e)
differs false false h e = true≢false (sym h)
