-- The ids of the negated matrix, as they are computed.
use Rattle.std.specs.Prelude.{◌≡◌, ℕ, ◌+◌, ◌≤◌, ◌<◌, List, take, length, slice_index}
use Rattle.std.specs.List.{Contains, sum_by}
use Rattle.dq_lits.specs.Literal.{Literal}
use Rattle.hint_log.specs.declared.origins.Origin.{Origin}
use Rattle.hint_log.specs.declared.origins.Origin.TheVariants.{Gate, Fault}
use Rattle.cert_export.specs.CircuitPart.{last_negated, negated_id}

-- a gate of the circuit, or a clause of the matrix
abbrev pub IsOfCircuit : List (List Literal) → List ℕ → Origin → Type 0
IsOfCircuit matrix gates (Gate v i) = Contains gates v
IsOfCircuit matrix gates (Fault j i leaf) = j ≤ length matrix
IsOfCircuit matrix gates _ = ⊥

-- an origin that has an id in the negated matrix
abbrev pub HasNegatedId : List (List Literal) → List ℕ → Origin → Type 0
HasNegatedId matrix gates origin =
    IsOfCircuit matrix gates origin × (negated_id matrix gates origin ≤ last_negated matrix gates)

-- how many literals stand before each clause, and in all clauses
pub record AreLengthsBefore (matrix : List (List Literal)) (before : List ℕ) : Type 0 where
  pub count : length before ≡ length matrix + 1
  pub each : (j : ℕ) → j < length matrix + 1 → slice_index before j ≡ sum_by length (take j matrix)
