-- Bits that are written from the first place on.
use Rattle.std.proofs.Common.{◌≡◌, ℕ, zero, suc, ◌+◌, ◌<◌, Bool, List, [], ◌∷◌, ◌++◌, map, take, drop, set, length, get_or, refl, sym, ◌∙◌, ap, arith}

abbrev pub written : {X : Type 0} → (X → Bool) → List X → List Bool → ℕ → List Bool
written f xs old i = map f (take i xs) ++ drop i old

one_more : {X : Type 0} (f : X → Bool) (xs : List X) (old : List Bool) (i : ℕ) (d : X) → i < length xs →
    length old ≡ length xs →
    set (written f xs old i) i (f (get_or xs i d)) ≡ written f xs old (suc i)
one_more f [] old i d below long = absurd (omega (arith, below))
one_more f (x ∷ xs) [] i d below long = absurd (omega (arith, long))
one_more f (x ∷ xs) (b ∷ old) zero d below long = refl
one_more f (x ∷ xs) (b ∷ old) (suc i) d below long = ap (λ bits. f x ∷ bits)
    (one_more f xs old i d (omega (arith, below)) (omega (arith, long)))

pub written_more : {X : Type 0} (f : X → Bool) (xs : List X) (old out next : List Bool) (i : ℕ) (d : X) →
    i < length xs → length old ≡ length xs → out ≡ written f xs old i →
    next ≡ set out i (f (get_or xs i d)) → next ≡ written f xs old (i + 1)
written_more f xs old out next i d below long is next_is =
    let behind : i + 1 ≡ suc i = omega arith in
    next_is ∙ ap (λ r. set r i (f (get_or xs i d))) is ∙ one_more f xs old i d below long ∙ ap (written f xs old)
    (sym behind)
