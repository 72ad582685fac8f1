use Rattle.std.proofs.Common.{arith}
use Rattle.skolem_checker.proofs.CopySteps.{input_unlearnt, input_learnt}
use Rattle.skolem_checker.proofs.renumbering.learn_inputs.Goals as goal

pub push-requires : goal.push-requires
push-requires c =
    input_unlearnt c.args.circuit.now c.every_circuit_is_a_netlist.ensures c.loop-variable.known
    c.inputs-variable-items.result.now c.inputs-variable-items.ensures c.loop-variable.variable-index
    c.loop-variable-test.true c.loop-variable.invariant

pub loop-variable-preserved : goal.loop-variable-preserved
loop-variable-preserved c =
    search (
      arith,
      (input_learnt c.args.circuit.now c.every_circuit_is_a_netlist.ensures c.loop-variable.known
          c.inputs-variable-items.result.now c.inputs-variable-items.ensures c.loop-variable.variable-index
          c.loop-variable-test.true c.loop-variable.invariant),
    )
