use Rattle.std.proofs.Common.{arith}
use Rattle.aig_binary.proofs.WrittenDeltas.{gate_in_order}
use Rattle.aig_binary.proofs.writer.write_gates.Goals as goal

pub overflow_sub-literal : goal.overflow_sub-literal
overflow_sub-literal c = search (arith, gate_in_order)

pub overflow_sub-left : goal.overflow_sub-left
overflow_sub-left c = search (arith, gate_in_order)
