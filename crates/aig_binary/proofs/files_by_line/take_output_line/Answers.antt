use Rattle.std.proofs.Common.{arith}
use Rattle.aig_binary.proofs.LinesTaken.{output_read, output_stops}
use Rattle.aig_binary.proofs.files_by_line.take_output_line.Goals as goal

pub returns-in-Ok-clause-line : goal.returns-in-Ok-clause-line
returns-in-Ok-clause-line c bytes behind first some = search (arith, output_read)

pub returns-in-Err-clause-line : goal.returns-in-Err-clause-line
returns-in-Err-clause-line c = search (arith, output_stops)
