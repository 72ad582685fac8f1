-- A row of bits that is written from its first place on.
use Rattle.std.proofs.Common.{◌≡◌, ℕ, zero, suc, ◌+◌, ◌-◌, ◌≤◌, ◌<◌, Bool, false, List, [], ◌∷◌, ◌++◌, map, take, set, replicate, length, get_or, refl, sym, ◌∙◌, ap, arith}
use Rattle.std.proofs.lemmas.List.{append-nil, take_all, take_more, map-append}

one_more : (f : ℕ → Bool) (xs : List ℕ) (i n : ℕ) → length xs ≡ i + suc n
    → set (map f (take i xs) ++ replicate (suc n) false) i (f (get_or xs i 0)) ≡ map f
    (take (suc i) xs) ++ replicate n false
one_more f [] i n long = absurd (omega (arith, long))
one_more f (x ∷ xs) zero n long = refl
one_more f (x ∷ xs) (suc i) n long = ap (λ bits. f x ∷ bits) (one_more f xs i n (omega (arith, long)))

pub written_more : (f : ℕ → Bool) (xs : List ℕ) (i : ℕ) (row next : List Bool) → i < length xs →
    row ≡ map f (take i xs) ++ replicate (length xs - i) false
    → next ≡ set row i (f (get_or xs i 0)) → next ≡ map f (take (i + 1) xs) ++ replicate (length xs - (i + 1)) false
written_more f xs i row next lt is next_is =
    let n = length xs - (i + 1) in
    let left : length xs - i ≡ suc n = omega (arith, lt) in
    let behind : i + 1 ≡ suc i = omega arith in
    next_is ∙ ap (λ r. set r i (f (get_or xs i 0))) (is ∙ ap (λ k. map f (take i xs) ++ replicate k false) left)
    ∙ one_more f xs i n (omega (arith, lt)) ∙ ap (λ k. map f (take k xs) ++ replicate n false) (sym behind)

pub written_all : (f : ℕ → Bool) (xs : List ℕ) (i : ℕ) (row : List Bool) → length xs ≤ i →
    row ≡ map f (take i xs) ++ replicate (length xs - i) false → row ≡ map f xs
written_all f xs i row past is = search (arith, replicate, append-nil, take_all)

-- a further list's values behind those of the lists before it
pub lists_more : (f : ℕ → Bool) (xs : List (List ℕ)) (i : ℕ) (bits next : List (List Bool)) (row : List Bool) →
    i < length xs → bits ≡ map (map f) (take i xs)
    → next ≡ bits ++ row ∷ [] → row ≡ map f (get_or xs i []) → next ≡ map (map f) (take (i + 1) xs)
lists_more f xs i bits next row lt is next_is row_is =
    search (arith, (take_more xs i [] lt), (map-append (map f) (take i xs) (get_or xs i [] ∷ [])))

pub lists_all : (f : ℕ → Bool) (xs : List (List ℕ)) (i : ℕ) (bits : List (List Bool)) → length xs ≤ i →
    bits ≡ map (map f) (take i xs) → bits ≡ map (map f) xs
lists_all f xs i bits past is = is ∙ ap (map (map f)) (take_all i xs past)
