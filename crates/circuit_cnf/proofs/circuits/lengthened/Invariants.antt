use Rattle.circuit_cnf.proofs.LongerRows.{IsLengthened}
use Rattle.circuit_cnf.proofs.circuits.lengthened.Given as goal

abbrev pub invariant-loop-place : goal.invariant-loop-place
invariant-loop-place l = IsLengthened l.row l.n l.place l.longer
