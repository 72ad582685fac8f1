use Rattle.std.proofs.Common.{◌≡◌, take}
use Rattle.cert_export.specs.CircuitPart.{exported_netlist}
use Rattle.cert_export.specs.Parts.{part_of}
use Rattle.cert_export.proofs.netlists.add_outputs.Given as goal

abbrev pub invariant-loop-y : goal.invariant-loop-y
invariant-loop-y l =
    let net = exported_netlist l.f l.log.entries (part_of l.part) in
    l.circuit ≡ record net { outputs = take l.y-index net.outputs }
