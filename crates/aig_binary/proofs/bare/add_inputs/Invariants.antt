use Rattle.std.proofs.Common.{◌≡◌}
use Rattle.aig_binary.specs.Scan.{first_variables}
use Rattle.aig_binary.proofs.bare.add_inputs.Given as goal

abbrev pub invariant-loop-i : goal.invariant-loop-i
invariant-loop-i l = l.circuit ≡ record l.initial.circuit { inputs = first_variables l.i }
