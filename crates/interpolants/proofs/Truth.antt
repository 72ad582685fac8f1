-- Lemmas on the truth of literals and clauses.
use Rattle.std.proofs.Common.{◌≡◌, ℕ, ◌==◌, Bool, true, ◌||◌, ◌&&◌, List, [], ◌∷◌, refl, sym, ◌∙◌, ap, arith}
use Rattle.std.specs.List.{list_any, list_all}
use Rattle.std.proofs.lemmas.Bool.{eq-eqb, or_right}
use Rattle.dq_lits.specs.Literal.{Literal, variable_of, same_literal}
use Rattle.dq_lits.specs.Derivation.{holds, AreSame}
use Rattle.dq_lits.proofs.HeldLiterals.{any_one, any_gives, holds_here}
use Rattle.interpolants.specs.Interpolant.{stands_on}

pub all_from : (p : Literal → Bool) (xs : List Literal) → ((l : Literal) → holds xs l ≡ true → p l ≡ true) →
    list_all p xs ≡ true
all_from p [] each = refl
all_from p (x ∷ xs) each =
    ap (λ b. b && list_all p xs) (each x (holds_here x xs)) ∙ all_from p xs
    (λ l h. each l (or_right (same_literal l x) (holds xs l) h))

pub any_same : (p q : Literal → Bool) → ((l : Literal) → p l ≡ q l) → (xs : List Literal) →
    list_any p xs ≡ list_any q xs
any_same p q same [] = refl
any_same p q same (x ∷ xs) = ap (λ b. b || list_any p xs) (same x) ∙ ap (λ b. q x || b) (any_same p q same xs)

-- a literal's variable stands where it does
pub stands_there : (clause : List Literal) (l : Literal) → holds clause l ≡ true →
    stands_on clause (variable_of l) ≡ true
stands_there clause l h = search (arith, any_one, eq-eqb)

pub stands_same : (xs ys : List Literal) → AreSame xs ys → (v : ℕ) → stands_on xs v ≡ true → stands_on ys v ≡ true
stands_same xs ys same v h =
    let w = any_gives (λ l. variable_of l == v) xs h in
    any_one (λ l. variable_of l == v) ys w.0 (sym (same w.0) ∙ w.1) w.2
