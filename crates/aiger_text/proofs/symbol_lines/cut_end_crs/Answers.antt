use Rattle.std.proofs.Common.{arith}
use Rattle.aiger_text.proofs.Cuts.{without_end_crs-push, without_end_crs-other}
use Rattle.aiger_text.proofs.symbol_lines.cut_end_crs.Goals as goal

pub loop-last-preserved : goal.loop-last-preserved
loop-last-preserved c = search (arith, without_end_crs-push)

pub returns-then-last-ne13 : goal.returns-then-last-ne13
returns-then-last-ne13 c = search (arith, without_end_crs-other)
