use Rattle.std.proofs.Common.{◌≡◌, ◌+◌, take}
use Rattle.skolem_checker.specs.Renaming.{known_variables}
use Rattle.skolem_checker.proofs.renumbering.learn_inputs.Given as goal

abbrev pub invariant-loop-variable : goal.invariant-loop-variable
invariant-loop-variable l = l.known ≡ take (l.variable-index + 1) (known_variables l.circuit)
