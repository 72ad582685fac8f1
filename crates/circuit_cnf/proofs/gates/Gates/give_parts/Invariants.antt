use Rattle.circuit_cnf.proofs.GateClauses.{PartsSoFar}
use Rattle.circuit_cnf.proofs.gates.Gates.give_parts.Given as goal

abbrev pub invariant-loop-parts : goal.invariant-loop-parts
invariant-loop-parts g l = (g.O.Oracle.Fits l.oracle l.log) × PartsSoFar l.fn.self l.fn.log l.gate l.self l.log l.parts
