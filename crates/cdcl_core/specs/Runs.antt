-- Clauses, one behind the other, that begin with the same literal.
use Rattle.std.specs.Prelude.{◌≡◌, ℕ, suc, ◌≤◌, ◌<◌, true, List, [], ◌∷◌, Option, None, Some, length, slice_get, slice_index_or}
use Rattle.dq_lits.specs.Literal.{Literal}
use Rattle.dq_lits.specs.Derivation.{holds}
use Rattle.oracle.specs.Fit.{live_in}

abbrev pub head_of : List Literal → Option Literal
head_of [] = None
head_of (l ∷ rest) = Some l

-- two clauses begin with the same literal
pub record BeginsAlike (c d : List Literal) : Type 0 where
  pub literal : Literal
  pub first : head_of c ≡ Some literal
  pub second : head_of d ≡ Some literal

pub record BeginsTrue (trues c : List Literal) : Type 0 where
  pub literal : Literal
  pub first : head_of c ≡ Some literal
  pub on : holds trues literal ≡ true

-- from a place on, clauses begin as the clause with an id does
abbrev pub BeginAlike : List (List Literal) → ℕ → ℕ → Type 0
BeginAlike clauses start id =
    (i : ℕ) (c d : List Literal) (l : Literal) → start ≤ i → i < id → slice_get clauses i ≡ Some c
    → live_in clauses id ≡ Some d
    → head_of d ≡ Some l → head_of c ≡ Some l

-- from a place on, clauses begin as one more would
pub record IsNextStart (clauses : List (List Literal)) (clause : List Literal)
    (start : ℕ) : Type 0 where
  pub within : start ≤ length clauses
  pub alike : (i : ℕ) (c : List Literal) (l : Literal) → start ≤ i → slice_get clauses i ≡ Some c
      → head_of clause ≡ Some l → head_of c ≡ Some l

-- for each clause, a place from which on clauses begin as it does
abbrev pub AreStarts : List (List Literal) → List ℕ → Type 0
AreStarts clauses starts =
    (i : ℕ) → i < length starts
    → (slice_index_or starts i 0 ≤ i) × BeginAlike clauses (slice_index_or starts i 0) (suc i)
