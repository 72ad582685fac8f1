use Rattle.std.proofs.Common.{◌≡◌, length, ap, ◌∙◌, arith}
use Rattle.circuit_plain.proofs.EvaluationLaws.{inputs_give}
use Rattle.circuit_plain.specs.Netlist.{Netlist}
use Rattle.circuit_plain.proofs.circuits.Circuit.write_inputs.Goals as goal

pub returns-clause-value : goal.returns-clause-value
returns-clause-value c =
    let items : c.deref-variable-items.result.now ≡ c.args.self.now.inputs =
    c.deref-variable-items.ensures.value ∙ ap (λ (net : Netlist). net.inputs) c.self.view_is in
    inputs_give c.args.self.now c.args.row.now c.loop-place.values c.loop-place.place
    (omega (arith, ap length items)) c.loop-place.invariant
