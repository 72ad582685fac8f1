-- How far the analysis of a conflict has come, as the trail is taken back.
use Rattle.std.specs.Prelude.{◌≡◌, ℕ, Bool, true, false, List, None, Some, IsSome, Contains, ◌⊎◌}
use Rattle.dq_lits.specs.Literal.{Literal, variable_of, is_negative, opposite}
use Rattle.dq_lits.specs.Derivation.{LiveClauses, holds, hint_fault}
use Rattle.hint_log.specs.Entries.{Entry}
use Rattle.hint_log.specs.Naming.{is_selector}
use Rattle.oracle.specs.Searched.{Stands}
use Rattle.dq_lits.specs.Truth.{IsFree}
use Rattle.learning_trail.specs.Marks.{marked}

-- whatever holds what is kept and the marked literals of the trail, and nothing but kept ones and
-- literals of the trail, the hints lead to a conflict
abbrev pub Leads : LiveClauses → List Bool → List Literal → List Literal → List ℕ → Type 0
Leads live marks trail kept hints =
    (trues : List Literal) (place : ℕ)
    → ((t : Literal) → holds kept t ≡ true → holds trues t ≡ true)
    → ((t : Literal) → holds trail t ≡ true → marked marks (variable_of t) ≡ true
    → holds trues t ≡ true)
    → ((t : Literal) → holds trues t ≡ true → (holds kept t ≡ true) ⊎ (holds trail t ≡ true))
    → hint_fault live trues place hints ≡ None

-- each hinted clause's literal on a selector is false by something kept or marked
abbrev pub AreTied : List Entry → LiveClauses → List Bool → List Literal → List Literal → List ℕ
    → Type 0
AreTied entries live marks trail kept hints =
    (h : ℕ) (d : List Literal) (l : Literal) → Contains hints h → live h ≡ Some d → holds d l ≡ true
    → is_selector entries (variable_of l) ≡ true
    → (holds kept (opposite l) ≡ true)
    ⊎ ((holds trail (opposite l) ≡ true) × (marked marks (variable_of l) ≡ true))

-- hints are newest first
pub record IsAnalysis (entries : List Entry) (live : LiveClauses) (trail : List Literal)
    (kept : List Literal) (marks : List Bool) (hints : List ℕ) : Type 0 where
  pub leads : Leads live marks trail kept hints
  pub tied : AreTied entries live marks trail kept hints
  pub ids : (h : ℕ) → Contains hints h → IsSome (live h)
  -- what is kept is no more on the trail, and consistent
  pub gone : (l : Literal) → holds kept l ≡ true
      → IsFree trail l × (holds kept (opposite l) ≡ false)
  -- no negated selector is marked
  pub plain : (t : Literal) → holds trail t ≡ true → marked marks (variable_of t) ≡ true
      → is_selector entries (variable_of t) ≡ true → is_negative t ≡ false

-- each literal of each clause stands on a variable that has a name, and negated where that is a
-- selector
abbrev pub AllStand : List Entry → LiveClauses → Type 0
AllStand entries live =
    (id : ℕ) (c : List Literal) (l : Literal) → live id ≡ Some c → holds c l ≡ true
    → Stands entries l
