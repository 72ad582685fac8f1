use Rattle.std.proofs.Common.{arith}
use Rattle.aig_binary.proofs.LinesTurned.{outputs_begin}
use Rattle.aig_binary.proofs.files_by_line.start.Goals as goal

pub returns-clause-gives : goal.returns-clause-gives
returns-clause-gives c bytes = search (arith, outputs_begin)
