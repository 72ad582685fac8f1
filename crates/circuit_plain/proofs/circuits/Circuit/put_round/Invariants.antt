use Rattle.number_tables.specs.Numbers.{has_number}
use Rattle.circuit_plain.proofs.SortSteps.{RoundSoFar}
use Rattle.circuit_plain.proofs.circuits.Circuit.put_round.Given as goal

abbrev pub invariant-loop-place : goal.invariant-loop-place
invariant-loop-place l =
    RoundSoFar l.self l.initial.draft.places.items l.draft.places.items (has_number l.draft.settled) l.added l.place
