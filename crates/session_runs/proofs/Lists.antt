-- Lists by their ends, and what is found at numbers.
use Rattle.std.proofs.Common.{◌≡◌, ℕ, zero, suc, ◌+◌, ◌-◌, ◌≤◌, ◌<◌, List, [], ◌∷◌, ◌++◌, map, take, drop, length, get_or, slice_get, Option, Some, refl, sym, ◌∙◌, ap, arith}
use Rattle.std.specs.List.{filter_map, cons_option, range_with_len}
use Rattle.std.proofs.lemmas.List.{length-append}
use Rattle.hint_log.specs.Naming.{numbered_from_one}

pub last-at : {X : Type 0} (below : List X) (x d : X) (n : ℕ) → n ≡ length below → get_or (below ++ x ∷ []) n d ≡ x
last-at [] x d zero is = refl
last-at [] x d (suc n) is = absurd (omega (arith, is))
last-at (y ∷ below) x d zero is = absurd (omega (arith, is))
last-at (y ∷ below) x d (suc n) is = last-at below x d n (omega (arith, is))

pub front-taken : {X : Type 0} (xs ys : List X) (n : ℕ) → n ≡ length xs → take n (xs ++ ys) ≡ xs
front-taken [] ys zero is = refl
front-taken [] ys (suc n) is = absurd (omega (arith, is))
front-taken (x ∷ xs) ys zero is = absurd (omega (arith, is))
front-taken (x ∷ xs) ys (suc n) is = ap (λ zs. x ∷ zs) (front-taken xs ys n (omega (arith, is)))

-- the place of the last one of a list
pub last-place : {X : Type 0} (below : List X) (x : X) → length (below ++ x ∷ []) - 1 ≡ length below
last-place below x = let long = length-append below (x ∷ []) in omega (arith, long)

-- what is found at each number
pub all-found : {X : Type 0} (h : ℕ → Option X) (ns : List ℕ) (xs : List X) → map h ns ≡ map Some xs
    → filter_map h ns ≡ xs
all-found h [] [] same = refl
all-found h [] (x ∷ xs) same = cc
all-found h (n ∷ ns) [] same = cc
all-found h (n ∷ ns) (x ∷ xs) same = search (arith, (all-found h ns xs))

pub found-still : {X : Type 0} (h k : ℕ → Option X) (ns : List ℕ) (xs : List X)
    → ((n : ℕ) (x : X) → h n ≡ Some x → k n ≡ Some x) → map h ns ≡ map Some xs → map k ns ≡ map Some xs
found-still h k [] [] still same = refl
found-still h k [] (x ∷ xs) still same = cc
found-still h k (n ∷ ns) [] still same = cc
found-still h k (n ∷ ns) (x ∷ xs) still same = search (arith, (found-still h k ns xs still))

there : {X : Type 0} (xs : List X) (i : ℕ) → i < length xs
    → (x : X) × (slice_get xs i ≡ Some x) × (drop i xs ≡ x ∷ drop (suc i) xs)
there [] i below = absurd (omega (arith, below))
there (x ∷ xs) zero below = (x, refl, refl)
there (x ∷ xs) (suc i) below = there xs i (omega (arith, below))

-- from a place on
from-place : {X : Type 0} (xs : List X) (a i n : ℕ) → a ≡ suc i → i + n ≤ length xs
    → filter_map (numbered_from_one xs) (range_with_len a n) ≡ take n (drop i xs)
from-place xs a i zero at few = refl
from-place xs a i (suc n) at few =
    let here = there xs i (omega (arith, few)) in
    ap (λ o. cons_option o (filter_map (numbered_from_one xs) (range_with_len (a + 1) n)))
    (ap (numbered_from_one xs) at ∙ here.1)
    ∙ ap (λ ys. here.0 ∷ ys) (from-place xs (a + 1) (suc i) n (omega (arith, at)) (omega (arith, few)))
    ∙ sym (ap (take (suc n)) here.2)

pub file-found : {X : Type 0} (xs ys : List X)
    → filter_map (numbered_from_one (xs ++ ys)) (range_with_len 1 (length xs)) ≡ xs
file-found xs ys =
    search (arith, (length-append xs ys), (from-place (xs ++ ys) 1 0 (length xs)), (front-taken xs ys (length xs)))
