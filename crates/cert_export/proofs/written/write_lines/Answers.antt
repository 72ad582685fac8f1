use Rattle.std.proofs.Common.{arith}
use Rattle.cert_export.proofs.WrittenLines.{ids_from_one}
use Rattle.cert_export.proofs.written.write_lines.Goals as goal

pub returns-clause-from_one : goal.returns-clause-from_one
returns-clause-from_one g c = search (arith, ids_from_one)
