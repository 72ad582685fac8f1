use Rattle.std.proofs.Common.{◌≡◌, [], take}
use Rattle.cert_export.specs.CircuitPart.{exported_netlist}
use Rattle.cert_export.specs.Parts.{part_of}
use Rattle.cert_export.proofs.netlists.add_gates.Given as goal

abbrev pub invariant-loop-place : goal.invariant-loop-place
invariant-loop-place l =
    let net = exported_netlist l.f l.log.entries (part_of l.part) in
    l.circuit ≡ record net { outputs = []; gates = take l.place net.gates }
