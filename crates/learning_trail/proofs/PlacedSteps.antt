-- Where the steps of a trail stand, as they come and go.
use Rattle.std.proofs.Common.{◌≡◌, ℕ, zero, suc, ◌-◌, ◌<◌, ◌≤◌, true, List, [], ◌∷◌, ◌++◌, length, set, get_or, All, refl, ◌∙◌, subst, arith, get_or-set_other, get_or-set_same}
use Rattle.std.proofs.lemmas.List.Elements.{All-head, All-tail}
use Rattle.dq_lits.specs.Literal.{Literal, variable_of}
use Rattle.dq_lits.specs.Derivation.{holds}
use Rattle.dq_lits.proofs.HeldLiterals.{holds_here, holds_later}
use Rattle.learning_trail.specs.declared.trails.Step.{Step}
use Rattle.learning_trail.specs.Steps.{literals_of, IsAt}
use Rattle.dq_lits.specs.Truth.{IsFree}
use Rattle.learning_trail.specs.TrailInside.{ArePlaced}
use Rattle.dq_lits.proofs.LiteralValues.{free_variable}

-- another variable's place is set
placed_beside : (places : List ℕ) (xs : List Step) (i n : ℕ) →
    ((t : Literal) → holds (literals_of xs) t ≡ true → variable_of t ≡ suc i → ⊥) → ArePlaced places xs →
    ArePlaced (set places i n) xs
placed_beside places [] i n other placed = tt
placed_beside places (s ∷ xs) i n other placed =
    search (arith, holds_here, get_or-set_other, holds_later, (placed_beside places xs i n))

pub placed_pushed : (places : List ℕ) (xs : List Step) (s : Step) (i : ℕ) → variable_of s.literal ≡ suc i →
    i < length places → IsFree (literals_of xs) s.literal → ArePlaced places xs
    → ArePlaced (set places i (length xs)) (s ∷ xs)
placed_pushed places xs s i e lt free placed = search (arith, get_or-set_same, placed_beside, free_variable)

-- one place more
read_more : (places : List ℕ) (v : ℕ) → get_or (places ++ 0 ∷ []) v 0 ≡ get_or places v 0
read_more [] zero = refl
read_more [] (suc v) = refl
read_more (p ∷ places) zero = refl
read_more (p ∷ places) (suc v) = read_more places v

pub placed_grown : (places : List ℕ) (xs : List Step) → ArePlaced places xs → ArePlaced (places ++ 0 ∷ []) xs
placed_grown places [] placed = tt
placed_grown places (s ∷ xs) placed = search (arith, read_more, (placed_grown places xs placed.1))

pub placed_later : (places : List ℕ) (newer xs : List Step) → ArePlaced places (newer ++ xs) → ArePlaced places xs
placed_later places [] xs placed = placed
placed_later places (s ∷ newer) xs placed = placed_later places newer xs placed.1

all_later : (n : ℕ) (newer xs : List Step) → All (λ s. variable_of s.literal ≤ n) (newer ++ xs) →
    All (λ s. variable_of s.literal ≤ n) xs
all_later n [] xs all = all
all_later n (s ∷ newer) xs all = search (arith, All-tail, (all_later n newer xs))

-- what is noted for a literal of the trail
pub record IsFoundAt (places : List ℕ) (n : ℕ) (k : Literal) (at : ℕ) : Type 0 where
  pub from_one : 1 ≤ variable_of k
  pub in_range : variable_of k ≤ n
  pub at_place : get_or places (variable_of k - 1) 0 ≡ at

pub placed_at : (places : List ℕ) (n : ℕ) (steps : List Step) (at : ℕ) (k : Literal) → ArePlaced places steps →
    All (λ s. variable_of s.literal ≤ n) steps → IsAt steps at k → IsFoundAt places n k at
placed_at places n steps at k placed all h =
    let here = (placed_later places h.newer (h.step ∷ h.older) (subst (ArePlaced places) h.is placed)).0 in
    let low = All-head (λ (s : Step). variable_of s.literal ≤ n) h.step h.older
    (all_later n h.newer (h.step ∷ h.older) (subst (λ (xs : List Step). All
    (λ (s : Step). variable_of s.literal ≤ n) xs) h.is all)) in
    subst (λ (l : Literal). IsFoundAt places n l at) h.literal
    (record { from_one = here.from_one; in_range = low; at_place = here.at_place ∙ h.count })
