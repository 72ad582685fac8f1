use Rattle.circuit_cnf.proofs.NamedInputs.{InputsSoFar}
use Rattle.circuit_cnf.proofs.checkers.name_inputs.Given as goal

abbrev pub invariant-loop-x : goal.invariant-loop-x
invariant-loop-x g l = (g.O.Oracle.Fits l.oracle l.log) × InputsSoFar l.f l.fn.log l.log l.inputs.items l.x-index
