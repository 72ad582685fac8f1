use Rattle.refutation_checker.proofs.InstanceIds.{own_id, no_id}
use Rattle.refutation_checker.proofs.laws.instances_go_by_row_and_clause.Goals as goal

pub returns-clause-own : goal.returns-clause-own
returns-clause-own c = own_id

pub returns-clause-none : goal.returns-clause-none
returns-clause-none c = no_id
