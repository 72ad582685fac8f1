-- Literals and their negations.
use Rattle.std.proofs.Common.{◌≡◌, true, false, List, [], ◌∷◌, refl, arith}
use Rattle.std.specs.List.{list_any}
use Rattle.std.proofs.lemmas.Bool.{or_cases, or_left, or_right}
use Rattle.dq_lits.specs.Literal.{Literal, positive, negative, opposite, same_literal}
use Rattle.dq_lits.specs.Derivation.{holds}
use Rattle.dq_lits.proofs.Truth.{same_literal-sound}
use Rattle.dq_lits.proofs.SignedLiterals.{same_literal-refl}

pub not-same : (l : Literal) → same_literal (opposite l) l ≡ false
not-same (positive v) = refl
not-same (negative v) = refl

-- a literal of one list whose negation is in another
pub pair-in : (xs ys : List Literal) → list_any (λ l. holds ys (opposite l)) xs ≡ true
    → (l : Literal) × (holds xs l ≡ true) × (holds ys (opposite l) ≡ true)
pair-in [] ys h = cc
pair-in (x ∷ xs) ys h = search (arith, or_cases, or_left, same_literal-refl, or_right, (pair-in xs ys))

pub pair-any : (xs ys : List Literal) (l : Literal) → holds xs l ≡ true → holds ys (opposite l) ≡ true
    → list_any (λ k. holds ys (opposite k)) xs ≡ true
pair-any [] ys l h there = h
pair-any (x ∷ xs) ys l h there = search (arith, or_cases, or_left, same_literal-sound, or_right, (pair-any xs ys l))
