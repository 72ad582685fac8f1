use Rattle.std.proofs.Common.{arith}
use Rattle.cert_text.proofs.Marks.{length-marks, marks_set}
use Rattle.cert_text.proofs.live_lines.LiveLines.clear.Goals as goal

pub set_mark-requires-clause-within : goal.set_mark-requires-clause-within
set_mark-requires-clause-within c = search (arith, length-marks)

pub returns : goal.returns
returns c = search (arith, length-marks, marks_set)
