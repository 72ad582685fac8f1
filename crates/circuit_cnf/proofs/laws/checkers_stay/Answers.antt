use Rattle.circuit_cnf.proofs.UnchangedCheckers.{others_leave_checkers}
use Rattle.circuit_cnf.proofs.laws.checkers_stay.Goals as goal

pub returns : goal.returns
returns c = others_leave_checkers
