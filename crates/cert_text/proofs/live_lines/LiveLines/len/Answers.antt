use Rattle.std.proofs.Common.{arith}
use Rattle.cert_text.proofs.Marks.{length-marks}
use Rattle.cert_text.proofs.live_lines.LiveLines.len.Goals as goal

pub returns-clause-count : goal.returns-clause-count
returns-clause-count c = search (arith, length-marks)
