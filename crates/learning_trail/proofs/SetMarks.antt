-- Marks, as they are set and read.
use Rattle.std.proofs.Common.{◌≡◌, ℕ, ◌+◌, ◌<◌, Bool, true, false, cond, ◌||◌, List, [], ◌∷◌, ◌++◌, take, reverse, length, get_or, ◌∙◌, ap, arith}
use Rattle.std.proofs.lemmas.List.{take_more, reverse-append}
use Rattle.dq_lits.specs.Literal.{Literal, variable_of}
use Rattle.dq_lits.specs.Derivation.{holds}
use Rattle.dq_lits.proofs.HeldLiterals.{holds_later}
use Rattle.learning_trail.specs.declared.trails.Step.{Step}
use Rattle.learning_trail.specs.Steps.{is_decision, level_of}
use Rattle.learning_trail.specs.Marks.{marked, is_level_marked}

pub taken : {X : Type 0} (xs : List X) (i : ℕ) (x : X) → i < length xs → get_or xs i x ≡ x →
    take (i + 1) xs ≡ take i xs ++ x ∷ []
taken xs i x lt at = take_more xs i x lt ∙ ap (λ y. take i xs ++ y ∷ []) at

pub turned : {X : Type 0} (xs : List X) (i : ℕ) (x : X) → i < length xs → get_or xs i x ≡ x →
    reverse (take (i + 1) xs) ≡ x ∷ reverse (take i xs)
turned xs i x lt at = ap reverse (taken xs i x lt at) ∙ reverse-append (take i xs) (x ∷ [])

-- down a trail
pub level_step : (marks : List Bool) (steps : List Step) (s : Step) (k n : ℕ) (b : Bool) → n ≡ k + 1 →
    k < length steps → get_or steps k s ≡ s
    → is_level_marked marks (reverse (take n steps)) ≡ b
    → (marked marks (variable_of s.literal) || cond (is_decision s) false
    (is_level_marked marks (reverse (take k steps)))) ≡ b
level_step marks steps s k n b e lt at inv = search (arith, turned)

pub level_later : (steps : List Step) (s : Step) (k n : ℕ) → n ≡ k + 1 → k < length steps → get_or steps k s ≡ s →
    is_decision s ≡ false
    → ((l : Literal) → holds (level_of (reverse (take n steps))) l ≡ true → holds (level_of (reverse steps)) l ≡ true)
    → (l : Literal) → holds (level_of (reverse (take k steps))) l ≡ true → holds (level_of (reverse steps)) l ≡ true
level_later steps s k n e lt at implied level l h = search (arith, turned, holds_later)
