use Rattle.std.proofs.Common.{◌≡◌, take}
use Rattle.lifted_proofs.proofs.liftings.outputs_of.Given as goal

abbrev pub invariant-loop-variable : goal.invariant-loop-variable
invariant-loop-variable l = l.known ≡ take l.variable-index l.bench.circuit.mapping.outputs
