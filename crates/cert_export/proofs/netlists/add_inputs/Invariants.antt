use Rattle.std.proofs.Common.{◌≡◌}
use Rattle.std.specs.List.{range_with_len}
use Rattle.cert_export.proofs.netlists.add_inputs.Given as goal

abbrev pub invariant-loop-i : goal.invariant-loop-i
invariant-loop-i l = l.circuit ≡ record l.fn.circuit { inputs = range_with_len 1 l.i }
