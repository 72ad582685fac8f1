use Rattle.std.proofs.Common.{arith}
use Rattle.std.proofs.lemmas.List.{get_or_default}
use Rattle.cert_text.proofs.Marks.{in_block, length-marks, mark_of_place}
use Rattle.cert_text.proofs.live_lines.LiveLines.get.Goals as goal

pub overflow_cast-place : goal.overflow_cast-place
overflow_cast-place c = search (arith, length-marks)

pub index-requires : goal.index-requires
index-requires c = search (arith, length-marks)

pub get-requires : goal.get-requires
get-requires c = search (arith, length-marks, in_block)

pub returns : goal.returns
returns c = search (arith, length-marks, get_or_default, mark_of_place)
