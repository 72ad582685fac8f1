use Rattle.std.proofs.Common.{arith}
use Rattle.skolem_checker.proofs.TablesLaws.{doubled_input_fits, input_doubled}
use Rattle.skolem_checker.proofs.tables.input_literals.Goals as goal

pub overflow_mul-variable : goal.overflow_mul-variable
overflow_mul-variable c =
    omega (
      arith,
      doubled_input_fits c.args.circuit.now c.inputs-variable-items.result.now c.inputs-variable-items.ensures
          c.loop-variable.variable-index c.loop-variable-test.true c.every_circuit_is_a_netlist.ensures,
    )

pub loop-variable-preserved : goal.loop-variable-preserved
loop-variable-preserved c =
    search (
      arith,
      (input_doubled c.args.circuit.now c.inputs-variable-items.result.now c.inputs-variable-items.ensures
          c.loop-variable.variable-index c.loop-variable-test.true c.loop-variable.literals.items c.loop-variable.invariant),
    )
