use Rattle.std.proofs.Common.{arith}
use Rattle.skolem_checker.proofs.CopySteps.{next_input_known, next_input_in_range, next_input_undefined, next_input_copied}
use Rattle.skolem_checker.proofs.renumbering.copy_inputs.Goals as goal

pub number-requires : goal.number-requires
number-requires c = search (arith, next_input_known)

pub add_input-requires-clause-in_range : goal.add_input-requires-clause-in_range
add_input-requires-clause-in_range c = search (arith, next_input_in_range)

pub add_input-requires-clause-undefined : goal.add_input-requires-clause-undefined
add_input-requires-clause-undefined c = search (arith, next_input_undefined)

pub loop-variable-preserved : goal.loop-variable-preserved
loop-variable-preserved c =
    search (
      arith,
      (next_input_copied c.args.circuit.now c.args.known.now c.inputs-variable-items.result.now c.requires.known c.inputs-variable-items.ensures c.loop-variable.variable-index c.loop-variable-test.true c.every_circuit_is_a_netlist.ensures c.loop-variable.copy c.loop-variable.invariant c.number.result c.number.ensures.is c.add_input.new.self c.in_ok-add_input.ensures.ok),
    )
