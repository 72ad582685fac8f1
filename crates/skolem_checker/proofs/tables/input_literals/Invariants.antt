use Rattle.std.proofs.Common.{◌≡◌, ◌*◌, map, take}
use Rattle.skolem_checker.proofs.tables.input_literals.Given as goal

abbrev pub invariant-loop-variable : goal.invariant-loop-variable
invariant-loop-variable l = l.literals.items ≡ map (λ v. 2 * v) (take l.variable-index l.circuit.inputs)
