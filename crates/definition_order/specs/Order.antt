-- The order in which existentials are defined, and which of them a definition may read (F.-X.
-- Reichl, F. Slivovsky, S. Szeider, "Certified DQBF solving by definition extraction", 2021).
use Rattle.std.specs.Prelude.{◌≡◌, ◌≢◌, ◌⊎◌, ◌<◌, ◌==◌, ◌↔◌, ℕ, List, length, take, Some, slice_get, slice_index}
use Rattle.std.specs.List.{All, AllPairs, Contains, position_or_len}
use Rattle.dq_lits.specs.Formula.{Existential, Dqbf, existential_of}

-- where an existential stands among all of them, in order of declaration
abbrev pub existential_place : Dqbf → Existential → ℕ
existential_place f y = position_or_len (λ z. z.variable == y.variable) f.existentials

-- a list of ranks has a number for each place, 0 where it ends: the lower rank stands before, and
-- of equal ranks the lower place
abbrev pub RanksBefore : List ℕ → ℕ → ℕ → Type 0
RanksBefore ranks p q =
    (slice_index ranks p < slice_index ranks q)
    ⊎ ((slice_index ranks p ≡ slice_index ranks q) × (p < q))

-- existentials that see less come first, and of those that see as many the one that ranks before
abbrev pub ComesBefore : Dqbf → List ℕ → Existential → Existential → Type 0
ComesBefore f ranks z y =
    (length z.sees < length y.sees)
    ⊎ ((length z.sees ≡ length y.sees)
    × RanksBefore ranks (existential_place f z) (existential_place f y))

-- the existential z comes before y and sees no more: a definition of y may read it
pub record IsShared (f : Dqbf) (ranks : List ℕ) (y z : Existential) : Type 0 where
  pub before : ComesBefore f ranks z y
  pub sees_no_more : All (Contains y.sees) z.sees

-- the variable is an existential that a definition of y may read
abbrev pub IsSharedVariable : Dqbf → List ℕ → Existential → ℕ → Type 0
IsSharedVariable f ranks y v =
    (z : Existential) × (existential_of f v ≡ Some z) × IsShared f ranks y z

-- a definition of y may read the universals that y sees, and these existentials
abbrev pub MayRead : Dqbf → List ℕ → Existential → ℕ → Type 0
MayRead f ranks y v = Contains y.sees v ⊎ IsSharedVariable f ranks y v

-- the places of the existentials, each once, in this order
pub record AreInOrder (f : Dqbf) (ranks places : List ℕ) : Type 0 where
  pub distinct : AllPairs (λ p q. p ≢ q) places
  pub each : (p : ℕ) → (Contains places p ↔ (p < length f.existentials))
  pub earlier : (k p q : ℕ) (y z : Existential) → slice_get places k ≡ Some p
      → slice_get f.existentials p ≡ Some y → slice_get f.existentials q ≡ Some z
      → ComesBefore f ranks z y → Contains (take k places) q

-- the places of the existentials that a definition of y may read
abbrev pub ArePlacesOfShared : Dqbf → List ℕ → Existential → List ℕ → Type 0
ArePlacesOfShared f ranks y places =
    (p : ℕ) → (Contains places p
    ↔ ((z : Existential) × (slice_get f.existentials p ≡ Some z) × IsShared f ranks y z))
