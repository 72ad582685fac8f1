use Rattle.engine_cases.specs.Making.{AreMade}
use Rattle.engine_cases.proofs.cnf.make_variables.Given as goal

abbrev pub invariant-loop : goal.invariant-loop
invariant-loop g l = g.O.Oracle.Fits l.oracle l.log × AreMade l.made l.log.entries
