use Rattle.std.proofs.Common.{length, sym, ap, ◌∙◌, arith}
use Rattle.circuit_plain.specs.Netlist.{Netlist}
use Rattle.circuit_plain.proofs.NumberedGates.{gate_grounded, inputs_grounded}
use Rattle.circuit_plain.proofs.circuits.Circuit.gates_read_below.Goals as goal

pub loop-place-init : goal.loop-place-init
loop-place-init c = inputs_grounded c.args.self.now c.requires

pub loop-place-preserved : goal.loop-place-preserved
loop-place-preserved c =
    let gates = ap (λ (net : Netlist). net.gates) (sym c.self.view_is) in
    let inputs = ap (λ (net : Netlist). length net.inputs) c.self.view_is in
    gate_grounded c.args.self.now _ c.index.result.now c.loop-place.place _ gates (omega (arith, ap length gates))
    c.index.ensures (omega (arith, inputs)) c.loop-place.invariant (sym c.is_next.ensures ∙ c.if-not-is_next.false)
