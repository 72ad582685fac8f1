use Rattle.circuit_cnf.proofs.ConeLiterals.{LiteralsSoFar}
use Rattle.circuit_cnf.proofs.leaves.cone_literals.Given as goal

abbrev pub invariant-loop : goal.invariant-loop
invariant-loop g l = (g.O.Oracle.Fits l.oracle l.log) × LiteralsSoFar l.cone.f.now l.cone.graph.now l.cone.inputs.now
    l.cone.marks.now l.fn.gates l.fn.log l.gates l.log l.literals.items l.counter
