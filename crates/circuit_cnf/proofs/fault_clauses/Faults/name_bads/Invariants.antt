use Rattle.circuit_cnf.specs.Saying.{selector_in}
use Rattle.circuit_cnf.proofs.NamedBads.{BadsSoFar}
use Rattle.circuit_cnf.proofs.fault_clauses.Faults.name_bads.Given as goal

abbrev pub invariant-loop-j : goal.invariant-loop-j
invariant-loop-j g l = (g.O.Oracle.Fits l.oracle l.log) × BadsSoFar (selector_in l.self) l.fn.log l.log l.bads.items l.j
