-- What propagation comes to.
use Rattle.std.specs.Prelude.{◌≡◌, ℕ, ◌≤◌, ◌<◌, true, List, Option, None, Some, All, Contains}
use Rattle.std.specs.List.{list_any}
use Rattle.dq_lits.specs.Literal.{Literal, variable_of}
use Rattle.dq_lits.specs.Derivation.{LiveClauses, holds, status_of, falsified}
use Rattle.hint_log.specs.ProductiveLog.{IsClosed}
use Rattle.learning_trail.specs.Steps.{Trailed, literals_of}
use Rattle.dq_lits.specs.Truth.{IsFree}

abbrev pub AreWithin : ℕ → List (List Literal) → Type 0
AreWithin room clauses = All (λ c. All (λ l. variable_of l ≤ room) c) clauses

-- there are places for all variables
abbrev pub AreMarkable : ℕ → List (List Literal) → Type 0
AreMarkable places clauses = All (λ c. All (λ l. variable_of l < places) c) clauses

abbrev pub IsPropagated : LiveClauses → Trailed → Option ℕ → Type 0
IsPropagated live new (Some id) = status_of (literals_of new.steps) (live id) ≡ falsified
IsPropagated live new None = IsClosed live (literals_of new.steps)

-- a literal without a value of a clause that has no true one; or every clause has one
abbrev pub IsOpening : List (List Literal) → List Literal → Option Literal → Type 0
IsOpening clauses trues None = All (λ c. list_any (holds trues) c ≡ true) clauses
IsOpening clauses trues (Some l) =
    IsFree trues l × (c : List Literal) × Contains clauses c × (holds c l ≡ true)
