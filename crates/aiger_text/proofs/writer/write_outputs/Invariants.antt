use Rattle.std.proofs.Common.{◌≡◌, ◌++◌, length}
use Rattle.std.specs.List.{flat_map}
use Rattle.dq_text.specs.Written.{number_line}
use Rattle.aiger_text.proofs.writer.write_outputs.Given as goal

abbrev pub invariant-loop-first : goal.invariant-loop-first
invariant-loop-first l = l.text.items ++ flat_map number_line l.rest ≡ l.fn.text.items ++ flat_map number_line l.outputs

abbrev pub decreases-loop-first : goal.decreases-loop-first
decreases-loop-first l = length l.rest
