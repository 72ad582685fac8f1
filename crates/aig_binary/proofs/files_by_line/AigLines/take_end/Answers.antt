use Rattle.std.proofs.Common.{arith}
use Rattle.aig_binary.proofs.LinesTurned.{gates_missing, outputs_missing}
use Rattle.aig_binary.proofs.files_by_line.AigLines.take_end.Goals as goal

pub returns-in-Outputs-clause-end : goal.returns-in-Outputs-clause-end
returns-in-Outputs-clause-end c = search (arith, outputs_missing)

pub returns-in-Gates-clause-end : goal.returns-in-Gates-clause-end
returns-in-Gates-clause-end c = search (arith, gates_missing)
