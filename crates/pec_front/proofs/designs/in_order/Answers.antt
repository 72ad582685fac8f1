use Rattle.std.proofs.Common.{List, sym, subst}
use Rattle.std.specs.Option.{MatchOption}
use Rattle.pec_front.specs.Boxes.{BlackBox, StandInOrder}
use Rattle.pec_front.specs.Reading.{IsFirstOutOfOrder}
use Rattle.pec_front.specs.Steps.{DriveInputs}
use Rattle.pec_front.proofs.LawfulDesigns.{drive-inputs, lawful}
use Rattle.pec_front.proofs.designs.in_order.Goals as goal

pub first_out_of_order-requires-clause-drive : goal.first_out_of_order-requires-clause-drive
first_out_of_order-requires-clause-drive c =
    subst (λ (bs : List BlackBox). DriveInputs c.args.implementation.now bs) (sym c.deref.ensures.value)
    (drive-inputs c.args.specification.now c.args.implementation.now c.every_circuit_is_a_netlist.ensures
    c.every_circuit_is_a_netlist-2.ensures c.args.boxes.items c.requires.boxes)

pub invariant_of-result : goal.invariant_of-result
invariant_of-result c =
    let imp = c.args.implementation.now in
    lawful c.args.specification.now imp c.every_circuit_is_a_netlist.ensures c.every_circuit_is_a_netlist-2.ensures
    c.args.boxes.items c.requires.boxes c.requires.specification c.requires.implementation c.requires.inputs
    c.requires.outputs
    (subst (λ (bs : List BlackBox). StandInOrder imp bs) c.deref.ensures.value
    (subst (λ o. MatchOption o (StandInOrder imp c.deref.result.now) (IsFirstOutOfOrder imp c.deref.result.now))
    c.in-None.is c.in_ok-place.ensures))
