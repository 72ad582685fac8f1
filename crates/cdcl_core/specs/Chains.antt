-- Lists of clauses, linked: where each list begins, and what stands behind each clause. An id is
-- from 1 on, and 0 ends a list.
use Rattle.std.specs.Prelude.{◌≡◌, ℕ, zero, suc, ◌+◌, ◌-◌, ◌*◌, ◌≤◌, ◌<◌, ◌==◌, Bool, true, false, List, [], ◌∷◌, length, slice_index_or, vec_capacity, if◌then◌else◌, set, ◌⊎◌}
use Rattle.std.specs.List.{list_any}
use Rattle.dq_lits.specs.Literal.{Literal, positive, variable_of, is_negative}
use Rattle.short_numbers.specs.Numbers.{Numbers}
use Rattle.cdcl_core.specs.declared.watches.Watches.{Watches}
use Rattle.cdcl_core.specs.declared.watches.OpenList.{OpenList}

-- the literal at a place
abbrev pub watch_at : List Literal → ℕ → Literal
watch_at literals i = slice_index_or literals i (positive 0)

-- the place of a literal's list
abbrev pub place_of : Literal → ℕ
place_of l = variable_of l * 2 + (if is_negative l then 1 else 0)

abbrev pub has : List ℕ → ℕ → Bool
has ids id = list_any (λ x. id == x) ids

abbrev pub IsChain : List ℕ → ℕ → List ℕ → Type 0
IsChain nexts start [] = start ≡ 0
IsChain nexts start (id ∷ rest) =
    (start ≡ id) × (1 ≤ id) × (id ≤ length nexts)
    × IsChain nexts (slice_index_or nexts (id - 1) 0) rest

-- how many ids stand on a list, of at most so many
abbrev pub chain_length : ℕ → List ℕ → ℕ → ℕ
chain_length zero nexts at = 0
chain_length (suc n) nexts at =
    if at == 0 then 0 else suc (chain_length n nexts (slice_index_or nexts (at - 1) 0))

-- none stands twice
abbrev pub AreOnce : List ℕ → Type 0
AreOnce [] = Unit {0}
AreOnce (id ∷ rest) = (has rest id ≡ false) × AreOnce rest

-- each clause is on the list of its literal, or else among those that a visit has left, which are a
-- list of their own
pub record AreLinked (heads nexts : List ℕ) (literals : List Literal) (left : ℕ)
    (rest : List ℕ) : Type 0 where
  pub count : length literals ≡ length nexts
  pub lists : ℕ → List ℕ
  pub chains : (p : ℕ) → IsChain nexts (slice_index_or heads p 0) (lists p)
  pub once : (p : ℕ) → AreOnce (lists p)
  pub on_list : (p id : ℕ) → has (lists p) id ≡ true → place_of (watch_at literals (id - 1)) ≡ p
  pub rest_chain : IsChain nexts left rest
  pub rest_once : AreOnce rest
  pub rest_apart : (p id : ℕ) → has (lists p) id ≡ true → has rest id ≡ false
  pub whole : (id : ℕ) → 1 ≤ id → id ≤ length nexts
      → (has (lists (place_of (watch_at literals (id - 1)))) id ≡ true) ⊎ (has rest id ≡ true)

-- each id that there is can stand at each place of the lists, without memory
pub record FitIds (w : Watches) : Type 0 where
  pub begin : (p : ℕ) → slice_index_or w.heads.items p 0 ≤ length w.nexts.items
  pub heads : length w.nexts.items ≤ w.heads.most
  pub nexts : length w.nexts.items ≤ w.nexts.most

pub record IsLinked (w : Watches) (left : ℕ) (rest : List ℕ) : Type 0 where
  pub links : AreLinked w.heads.items w.nexts.items w.literals.items left rest
  pub fits : FitIds w

-- one clause more can be linked without memory
pub record HasNextRoom (w : Watches) : Type 0 where
  pub literals : length w.literals.items < vec_capacity w.literals
  pub nexts : length w.nexts.items < w.nexts.capacity
  pub heads_fit : length w.nexts.items < w.heads.most
  pub nexts_fit : length w.nexts.items < w.nexts.most

-- a literal has a list
abbrev pub HasList : Watches → Literal → Type 0
HasList w l = (place_of l + 1) ≤ length w.heads.items

-- the watches as they are once the list that is visited is put back
abbrev pub with_open : Watches → OpenList → Watches
with_open w o =
    record w { heads = record w.heads { items = set w.heads.items (place_of o.literal) o.first } }

-- the clauses of a literal's list are left to visit
pub record IsTaken (w : Watches) (l : Literal) (left : ℕ) : Type 0 where
  pub rest : List ℕ
  pub linked : IsLinked w left rest
  pub watched : (id : ℕ) → has rest id ≡ true → watch_at w.literals.items (id - 1) ≡ l
  pub whole : (id : ℕ) → 1 ≤ id → id ≤ length w.nexts.items → watch_at w.literals.items (id - 1) ≡ l
      → has rest id ≡ true

-- clauses that are watched at a literal are left to visit, from this one on
pub record IsLeft (w : Watches) (at : ℕ) (l : Literal) : Type 0 where
  pub rest : List ℕ
  pub linked : IsLinked w at rest
  pub watched : (id : ℕ) → has rest id ≡ true → watch_at w.literals.items (id - 1) ≡ l

-- empty lists were added
pub record AddsLists (old new : Numbers) : Type 0 where
  pub more : length old.items ≤ length new.items
  pub same : (p : ℕ) → slice_index_or new.items p 0 ≡ slice_index_or old.items p 0
  pub most : new.most ≡ old.most

-- how many clauses are left to visit, from one on
abbrev pub left_to_visit : Watches → ℕ → ℕ
left_to_visit w at = chain_length (length w.nexts.items) w.nexts.items at
