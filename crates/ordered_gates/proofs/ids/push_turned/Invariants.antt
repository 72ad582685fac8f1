use Rattle.std.proofs.Common.{◌≡◌, ◌++◌, map, take}
use Rattle.ordered_gates.specs.Circuits.{turned_id}
use Rattle.ordered_gates.proofs.ids.push_turned.Given as goal

abbrev pub invariant-loop-id : goal.invariant-loop-id
invariant-loop-id l = l.turned.items ≡ l.fn.turned.items ++ map (turned_id l.circuit.gates) (take l.id-index l.ids)
