-- The gates of the ordered circuit, at their places.
use Rattle.std.proofs.Common.{◌≡◌, ◌<◌, ℕ, length, get_or, arith}
use Rattle.std.proofs.lemmas.List.{get_or-map, length-map, get_or_default}
use Rattle.circuit_plain.specs.Netlist.{Netlist, gate_at}
use Rattle.ordered_gates.specs.Circuits.{ordered_gate, ordered_netlist}

-- the gate at a place of the ordered netlist
pub gate_there : (net : Netlist) (place : ℕ) → place < length net.gates →
    (place < length (ordered_netlist net).gates)
    × (get_or (ordered_netlist net).gates place (ordered_gate (gate_at net place)) ≡ ordered_gate (gate_at net place))
gate_there net place below = search (arith, length-map, get_or-map, get_or_default)
