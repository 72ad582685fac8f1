use Rattle.std.proofs.Common.{◌≡◌, map, take}
use Rattle.ordered_gates.specs.Circuits.{ordered_item}
use Rattle.ordered_gates.proofs.items.ordered_items.Given as goal

abbrev pub invariant-loop-place : goal.invariant-loop-place
invariant-loop-place l = l.written ≡ map (ordered_item l.circuit.gates) (take l.place l.items)
