use Rattle.std.proofs.Common.{◌≡◌}
use Rattle.skolem_checker.specs.Renaming.{renumbered_first}
use Rattle.skolem_checker.proofs.renumbering.copy_inputs.Given as goal

abbrev pub invariant-loop-variable : goal.invariant-loop-variable
invariant-loop-variable l = l.copy ≡ renumbered_first l.circuit l.variable-index 0 0
