use Rattle.circuit_cnf.proofs.UnchangedCheckers.{round_leaves_checkers}
use Rattle.circuit_cnf.proofs.laws.checkers_stay_with_rounds.Goals as goal

pub returns : goal.returns
returns c = round_leaves_checkers
