use Rattle.number_tables.specs.Numbers.{has_number}
use Rattle.circuit_plain.specs.Steps.{IsDraft}
use Rattle.circuit_plain.proofs.circuits.Circuit.put_all.Given as goal

abbrev pub invariant-loop-place : goal.invariant-loop-place
invariant-loop-place l = IsDraft l.self l.draft.places.items (has_number l.draft.settled)
