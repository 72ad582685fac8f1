use Rattle.std.proofs.Common.{arith}
use Rattle.cert_text.proofs.ReadBodies.{handed_on, rows_stop, items_stop, whole}
use Rattle.cert_text.proofs.reader.read_body.Goals as goal

pub returns-in_err-rows : goal.returns-in_err-rows
returns-in_err-rows c = search (arith, handed_on, rows_stop)

pub returns-in_err-items : goal.returns-in_err-items
returns-in_err-items c = search (arith, handed_on, items_stop)

pub returns : goal.returns
returns c = search (arith, whole)
