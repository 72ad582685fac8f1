use Rattle.circuit_cnf.specs.Saying.{leaf_in, selector_in}
use Rattle.circuit_cnf.proofs.SaidFaults.{PartSoFar}
use Rattle.circuit_cnf.proofs.fault_clauses.Faults.part_faults.Given as goal

abbrev pub invariant-loop-j : goal.invariant-loop-j
invariant-loop-j g l = (g.O.Oracle.Fits l.oracle l.log) × PartSoFar l.self.f.now (selector_in l.self) l.bads
    (leaf_in l.self) l.part l.fn.log l.log l.j
