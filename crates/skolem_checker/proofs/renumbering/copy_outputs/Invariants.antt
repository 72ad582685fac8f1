use Rattle.std.proofs.Common.{◌≡◌, length}
use Rattle.skolem_checker.specs.Renaming.{renumbered_first}
use Rattle.skolem_checker.proofs.renumbering.copy_outputs.Given as goal

abbrev pub invariant-loop-output : goal.invariant-loop-output
invariant-loop-output l = l.copy ≡ renumbered_first l.circuit (length l.circuit.inputs)
    (length l.circuit.gates) l.output-index
