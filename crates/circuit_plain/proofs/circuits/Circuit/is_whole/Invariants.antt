use Rattle.std.proofs.Common.{ℕ, ◌<◌}
use Rattle.circuit_plain.specs.Netlist.{gate_at}
use Rattle.circuit_plain.specs.Order.{IsSettled}
use Rattle.circuit_plain.proofs.circuits.Circuit.is_whole.Given as goal

abbrev pub invariant-loop-place : goal.invariant-loop-place
invariant-loop-place l =
    (p : ℕ) → p < l.place → IsSettled l.self l.draft.places.items (gate_at l.self p).variable
