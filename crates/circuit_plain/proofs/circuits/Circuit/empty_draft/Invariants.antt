use Rattle.std.proofs.Common.{◌≡◌, ℕ, true}
use Rattle.std.specs.Prelude.{◌↔◌}
use Rattle.number_tables.specs.Numbers.{has_number}
use Rattle.circuit_plain.proofs.SortSteps.{IsLeafBefore}
use Rattle.circuit_plain.proofs.circuits.Circuit.empty_draft.Given as goal

abbrev pub invariant-loop-variable : goal.invariant-loop-variable
invariant-loop-variable l =
    (v : ℕ) → (has_number l.settled v ≡ true) ↔ IsLeafBefore l.self l.variable-index v
