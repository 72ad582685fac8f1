use Rattle.std.proofs.Common.{arith}
use Rattle.cert_export.proofs.FileGates.{next_input, input_added}
use Rattle.cert_export.proofs.netlists.add_inputs.Goals as goal

pub add_input-requires-clause-undefined : goal.add_input-requires-clause-undefined
add_input-requires-clause-undefined c = search (arith, (next_input c.loop-i.circuit c.loop-i.i))

pub loop-i-preserved : goal.loop-i-preserved
loop-i-preserved c = input_added c.loop-i.circuit c.args.circuit.now c.add_input.new.self c.loop-i.i c.loop-i.invariant
    c.in_ok-add_input.ensures.ok
