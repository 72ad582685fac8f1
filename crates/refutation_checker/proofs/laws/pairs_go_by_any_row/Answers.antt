use Rattle.refutation_checker.proofs.PairNames.{own_number, same_number}
use Rattle.refutation_checker.proofs.laws.pairs_go_by_any_row.Goals as goal

pub returns-clause-own : goal.returns-clause-own
returns-clause-own c = own_number

pub returns-clause-same : goal.returns-clause-same
returns-clause-same c = same_number
