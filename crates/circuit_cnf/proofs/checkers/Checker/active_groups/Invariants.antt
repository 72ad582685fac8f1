use Rattle.circuit_cnf.proofs.ActiveGroups.{GroupsSoFar}
use Rattle.circuit_cnf.proofs.checkers.Checker.active_groups.Given as goal

abbrev pub invariant-loop-place : goal.invariant-loop-place
invariant-loop-place l = GroupsSoFar l.self.gates.earlier.items l.are_all l.place l.active.items
