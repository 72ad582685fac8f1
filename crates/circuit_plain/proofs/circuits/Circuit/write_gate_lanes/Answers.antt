use Rattle.std.proofs.Common.{◌≡◌, length, take, sym, ap, arith}
use Rattle.std.proofs.lemmas.List.{take_all}
use Rattle.circuit_plain.proofs.BlockLaws.{write_lanes}
use Rattle.circuit_plain.specs.Netlist.{Netlist}
use Rattle.circuit_plain.proofs.circuits.Circuit.write_gate_lanes.Goals as goal

pub loop-place-preserved : goal.loop-place-preserved
loop-place-preserved c =
    write_lanes c.args.self.now c.args.order.now _ _ c.args.values.now c.loop-place.values _ c.loop-place.place-index
    c.index.result.now c.gate_lanes-lanes.result (rw c.self.view_is at c.self.invariant) c.requires.ordered
    c.requires.a_place_a_variable
    c.places-place-items.ensures (ap (λ (net : Netlist). net.gates) (sym c.self.view_is)) c.loop-place-test.true
    c.index.ensures c.gate_lanes-lanes.ensures.bits c.set.ensures c.loop-place.invariant

pub returns-clause-value : goal.returns-clause-value
returns-clause-value c l b l_below b_below bits given =
    let whole : take c.loop-place.place-index c.args.order.now ≡ c.args.order.now =
    take_all _ _ (omega (arith, ap length c.places-place-items.ensures)) in
    rw whole at (c.loop-place.invariant.gives l b l_below b_below bits given)
