use Rattle.std.proofs.Common.{◌-◌, length}
use Rattle.number_tables.specs.Numbers.{has_number}
use Rattle.circuit_plain.specs.Steps.{IsDraft}
use Rattle.circuit_plain.proofs.circuits.Circuit.order_by_walk.Given as goal

abbrev pub invariant-loop-walked : goal.invariant-loop-walked
invariant-loop-walked l = IsDraft l.self l.draft.places.items (has_number l.draft.settled)

abbrev pub decreases-loop-walked : goal.decreases-loop-walked
decreases-loop-walked l = length l.self.gates - length l.draft.places.items
