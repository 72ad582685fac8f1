-- Clauses that are watched at two of their literals.
use Rattle.std.specs.Prelude.{◌≡◌, ◌≢◌, ℕ, suc, ◌-◌, ◌≤◌, if◌then◌else◌, ◌&&◌, not, ◌++◌, Bool, true, false, List, [], ◌∷◌, length, Some, slice_get, ◌⊎◌, Contains}
use Rattle.std.specs.List.{list_any}
use Rattle.dq_lits.specs.Literal.{Literal, opposite, same_literal}
use Rattle.dq_lits.specs.Derivation.{holds}
use Rattle.learning_trail.specs.declared.trails.Step.{Step}
use Rattle.learning_trail.specs.Steps.{literals_of, is_decision}
use Rattle.cdcl_core.specs.Chains.{watch_at}

-- both are literals of the clause, or it has no other literal than the one
pub record IsWatched (c : List Literal) (k l : Literal) : Type 0 where
  pub two : same_literal k l ≡ false → (holds c k ≡ true) × (holds c l ≡ true)
  pub one : same_literal k l ≡ true → (x : Literal) → holds c x ≡ true → x ≡ k

abbrev pub AreWatched : List (List Literal) → List Literal → List Literal → Type 0
AreWatched clauses these others =
    (i : ℕ) (c : List Literal) → slice_get clauses i ≡ Some c
    → IsWatched c (watch_at these i) (watch_at others i)

-- all literals of the clause are one
abbrev pub AreSame : List Literal → Type 0
AreSame c = (x y : Literal) → holds c x ≡ true → holds c y ≡ true → x ≡ y

-- the clause isn't empty, and some clause that was noted is watched at the literal
abbrev pub IsNoted : List Literal → List ℕ → List Literal → Literal → Type 0
IsNoted first short c l =
    (c ≢ []) × ((id : ℕ) × Contains short id × (watch_at first (id - 1) ≡ l))

-- the clauses without two literals that differ are noted, but for those of which a noted one says
-- the same
pub record AreShort (clauses : List (List Literal)) (first second : List Literal)
    (short : List ℕ) : Type 0 where
  pub ids : (id : ℕ) → Contains short id → (1 ≤ id) × (id ≤ length clauses)
  pub one : (id : ℕ) → Contains short id
      → same_literal (watch_at first (id - 1)) (watch_at second (id - 1)) ≡ true
  pub whole : (i : ℕ) (c : List Literal) → slice_get clauses i ≡ Some c
      → same_literal (watch_at first i) (watch_at second i) ≡ true
      → Contains short (suc i) ⊎ IsNoted first short c (watch_at first i)

-- where a watched literal is false by what was processed, the other one is true
abbrev pub Guards : List Literal → List Literal → List Literal → List Literal → Type 0
Guards processed trues these others =
    (i : ℕ) → same_literal (watch_at these i) (watch_at others i) ≡ false
    → holds processed (opposite (watch_at these i)) ≡ true → holds trues (watch_at others i) ≡ true

abbrev pub AreShortTrue : List (List Literal) → List Literal → List Literal → List Literal → Type 0
AreShortTrue clauses first second trues = (i : ℕ) (c : List Literal) → slice_get clauses i ≡ Some c
    → same_literal (watch_at first i) (watch_at second i) ≡ true → list_any (holds trues) c ≡ true

pub record IsGuarded (clauses : List (List Literal)) (first second : List Literal)
    (processed trues : List Literal) : Type 0 where
  pub first_guards : Guards processed trues first second
  pub second_guards : Guards processed trues second first
  pub short : AreShortTrue clauses first second trues

-- it was so at each level's end: where a watched literal is false there, the other one is true by
-- then, at no higher level
abbrev pub AreLevelsGuarded : List (List Literal) → List Literal → List Literal → List Step → Type 0
AreLevelsGuarded clauses first second [] = Unit {0}
AreLevelsGuarded clauses first second (s ∷ earlier) =
    (is_decision s ≡ true
    → IsGuarded clauses first second (literals_of earlier) (literals_of earlier))
    × AreLevelsGuarded clauses first second earlier

-- all literals but the newest were processed
abbrev pub IsTopGuarded : List (List Literal) → List Literal → List Literal → List Step → Type 0
IsTopGuarded clauses first second [] = Unit {0}
IsTopGuarded clauses first second (s ∷ earlier) =
    IsGuarded clauses first second (literals_of earlier) (s.literal ∷ literals_of earlier)

-- propagation goes on from the newest literal
pub record CanPropagate (clauses : List (List Literal)) (first second : List Literal)
    (steps : List Step) : Type 0 where
  pub levels : AreLevelsGuarded clauses first second steps
  pub top : IsTopGuarded clauses first second steps

-- a watch moved from a false literal to one that wasn't false
pub record IsMove (trues : List Literal) (old new other : Literal) : Type 0 where
  pub was_false : holds trues (opposite old) ≡ true
  pub not_false : holds trues (opposite new) ≡ false
  pub was_apart : same_literal old other ≡ false
  pub apart : same_literal new other ≡ false

abbrev pub AreMoved : List Literal → List Literal → List Literal → List Literal → Type 0
AreMoved trues old new others =
    (i : ℕ) → (watch_at new i ≡ watch_at old i)
    ⊎ IsMove trues (watch_at old i) (watch_at new i) (watch_at others i)

-- an id was added where the two literals are one, unless that was noted
abbrev pub NotesShort : List ℕ → List ℕ → Literal → Literal → Bool → ℕ → Type 0
NotesShort old new k l noted id =
    new ≡ (if same_literal k l && not noted then old ++ id ∷ [] else old)
