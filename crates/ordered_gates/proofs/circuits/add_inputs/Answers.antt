use Rattle.std.proofs.Common.{subst, slice_index, arith}
use Rattle.list_laws.proofs.Elements.{equal_lists_at}
use Rattle.circuit_plain.specs.Netlist.{Netlist, IsDefined}
use Rattle.circuit_plain.proofs.NetlistParts.{input_added, input_new, input_fits}
use Rattle.ordered_gates.proofs.circuits.add_inputs.Goals as goal

pub add_input-requires-clause-in_range : goal.add_input-requires-clause-in_range
add_input-requires-clause-in_range c = search (arith, equal_lists_at, input_fits)

pub add_input-requires-clause-undefined : goal.add_input-requires-clause-undefined
add_input-requires-clause-undefined c =
    let net = c.args.circuit.now in
    let v = slice_index c.inputs-inputs.result.now c.loop-i.i in
    let is = equal_lists_at c.inputs-inputs.result.now net.inputs c.loop-i.i c.inputs-inputs.ensures c.loop-i-test.true in
    λ defined. input_new net c.every_circuit_is_a_netlist.ensures c.loop-i.i v is.0 is.1
    (subst (λ (n : Netlist). IsDefined n v) c.loop-i.invariant defined)

pub loop-i-preserved : goal.loop-i-preserved
loop-i-preserved c =
    let net = c.args.circuit.now in
    let is = equal_lists_at c.inputs-inputs.result.now net.inputs c.loop-i.i c.inputs-inputs.ensures c.loop-i-test.true in
    input_added net c.loop-i.i (slice_index c.inputs-inputs.result.now c.loop-i.i) c.loop-i.ordered c.add_input.new.self
    is.0 is.1 c.loop-i.invariant c.in_ok-add_input.ensures.ok
