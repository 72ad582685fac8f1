use Rattle.std.proofs.Common.{◌≡◌, length}
use Rattle.aiger_text.specs.Lines.{without_end_crs}
use Rattle.aiger_text.proofs.symbol_lines.cut_end_crs.Given as goal

abbrev pub invariant-loop-last : goal.invariant-loop-last
invariant-loop-last l = without_end_crs l.rest ≡ without_end_crs l.bytes

abbrev pub decreases-loop-last : goal.decreases-loop-last
decreases-loop-last l = length l.rest
