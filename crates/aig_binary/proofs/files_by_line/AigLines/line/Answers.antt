use Rattle.std.proofs.Common.{arith}
use Rattle.aig_binary.proofs.LinesTaken.{text_taken}
use Rattle.aig_binary.proofs.files_by_line.AigLines.line.Goals as goal

pub returns-in-Outputs-clause-line : goal.returns-in-Outputs-clause-line
returns-in-Outputs-clause-line c = search (arith, text_taken)

pub returns-in-Symbols-clause-line : goal.returns-in-Symbols-clause-line
returns-in-Symbols-clause-line c = search (arith, text_taken)
