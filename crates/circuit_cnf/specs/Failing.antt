-- What a turn answers where a clause fails, and which answers decide nothing.
use Rattle.std.specs.Prelude.{◌≡◌, ◌<◌, ℕ, Bool, true, false, List, [], map, length, Some, Result, Ok, slice_index_or}
use Rattle.std.specs.List.{Contains}
use Rattle.dq_lits.specs.Literal.{Literal, clause_true}
use Rattle.dq_lits.specs.Formula.{Existential, Dqbf}
use Rattle.dq_lits.specs.Skolem.{OutputFunction}
use Rattle.dq_lits.specs.Expansion.{row_assignment}
use Rattle.hint_log.specs.Entries.{Entry, Round}
use Rattle.hint_log.specs.Naming.{numbered_from_one, round_assignment, rows_of}
use Rattle.hint_log.specs.ProductiveLog.{RefutesNewRow}
use Rattle.hint_log.specs.declared.stops.Stop.{Stop}
use Rattle.circuit_cnf.specs.declared.turns.Turn.{Turn}
use Rattle.circuit_cnf.specs.declared.turns.Turn.TheVariants.{Holds, Fails}

-- the clause of this number, counted from 1, is false under the row and the outputs' values there
pub record IsFailure (f : Dqbf) (output : Existential → OutputFunction) (row values : List Bool)
    (j : ℕ) : Type 0 where
  pub row_length : length row ≡ length f.universals
  pub values_are : values ≡ map (λ y. (output y).value (row_assignment f row)) f.existentials
  pub clause : List Literal
  pub clause_is : numbered_from_one f.matrix j ≡ Some clause
  pub is_false : clause_true (round_assignment f row values) clause ≡ false

abbrev pub IsFalseClause : Dqbf → List Bool → List Bool → ℕ → Type 0
IsFalseClause f row values j =
    (clause : List Literal) × (numbered_from_one f.matrix j ≡ Some clause)
    × (clause_true (round_assignment f row values) clause ≡ false)

-- some clause is false under a row and these values
abbrev pub HasFalseClause : Dqbf → List Bool → List Bool → Type 0
HasFalseClause f row values =
    (j : ℕ) × (j < length f.matrix)
    × (clause_true (round_assignment f row values) (slice_index_or f.matrix j []) ≡ false)

-- no answer that the call logs decides
abbrev pub is_silent : Result Turn Stop → Bool
is_silent (Ok (Holds _)) = false
is_silent _ = true

abbrev pub IsFailing : Dqbf → (Existential → OutputFunction) → Turn → Type 0
IsFailing f output (Fails row values j) = IsFailure f output row values j
IsFailing f output (Holds id) = ⊥

-- a failure at a row that wasn't tried is what a productive log's round is: point 4
abbrev pub FailuresRefuteRows : Type 0
FailuresRefuteRows =
    (f : Dqbf) (output : Existential → OutputFunction) (entries : List Entry)
    (row values : List Bool) (j : ℕ) → IsFailure f output row values j
    → (Contains (rows_of entries) row → ⊥) → RefutesNewRow f entries (Round row values j)
