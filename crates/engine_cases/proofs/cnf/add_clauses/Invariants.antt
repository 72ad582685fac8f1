use Rattle.engine_cases.specs.Making.{AreMade}
use Rattle.engine_cases.proofs.cnf.add_clauses.Given as goal

abbrev pub invariant-loop-j : goal.invariant-loop-j
invariant-loop-j g l = g.O.Oracle.Fits l.oracle l.log × AreMade l.made l.log.entries
