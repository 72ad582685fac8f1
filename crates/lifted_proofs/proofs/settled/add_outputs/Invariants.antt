use Rattle.std.proofs.Common.{◌≡◌, reverse}
use Rattle.dq_prep.specs.Units.{taken_literals}
use Rattle.circuit_plain.proofs.NetlistParts.{with_outputs}
use Rattle.lifted_proofs.specs.SettledCircuits.{settled_netlist}
use Rattle.lifted_proofs.proofs.settled.add_outputs.Given as goal

abbrev pub invariant-loop-place : goal.invariant-loop-place
invariant-loop-place l =
    l.settled
    ≡ with_outputs (settled_netlist (taken_literals (reverse l.table.units.now)) l.bench.circuit.mapping.outputs
    l.bench.circuit.netlist) l.place
