use Rattle.std.proofs.Common.{arith}
use Rattle.std.proofs.lemmas.Result.{on_ok_weaker}
use Rattle.cert_text.proofs.Numberings.{line_marked}
use Rattle.cert_text.proofs.line_ids.LineIds.push.Goals as goal

pub returns-clause-numbering : goal.returns-clause-numbering
returns-clause-numbering c = search (arith, on_ok_weaker, line_marked)
