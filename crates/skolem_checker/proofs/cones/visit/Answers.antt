use Rattle.std.proofs.Common.{arith}
use Rattle.skolem_checker.proofs.ConesLaws.{gate_passes, seen_passes}
use Rattle.skolem_checker.proofs.cones.visit.Goals as goal

pub returns-in-Some-clause-passes : goal.returns-in-Some-clause-passes
returns-in-Some-clause-passes c room e is =
    search (
      arith,
      (gate_passes c.args.tested.now.circuit.now c.every_circuit_is_a_netlist.ensures c.args.tested.now.literals.now c.args.tested.now.formula.now.universals c.args.tested.now.by_input.now e.sees c.add_sides.new.slots c.add_sides.new.cone c.requires.tested.inputs c.args.v c.in-Some.left c.in-Some.right (c.sides_of.ensures c.in-Some.left c.in-Some.right c.in-Some.is) (c.add_sides.ensures.left room) (c.add_sides.ensures.right room)),
    )

pub returns-in-None-clause-passes : goal.returns-in-None-clause-passes
returns-in-None-clause-passes c seen e is =
    search (
      arith,
      (seen_passes c.args.tested.now.circuit.now c.every_circuit_is_a_netlist.ensures c.args.tested.now.literals.now c.args.tested.now.formula.now.universals c.args.tested.now.by_input.now e.sees c.args.slots.now c.args.cone.now c.requires.tested.inputs c.args.v (c.is_seen.ensures seen e is)),
    )
