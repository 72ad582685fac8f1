use Rattle.std.proofs.Common.{arith}
use Rattle.cdcl_core.proofs.AddedClauses.{listed_one}
use Rattle.cdcl_core.proofs.clauses.ClauseStore.push.Goals as goal

pub push_watched-requires-clause-first_list : goal.push_watched-requires-clause-first_list
push_watched-requires-clause-first_list c = search (arith, listed_one)

pub push_watched-requires-clause-second_list : goal.push_watched-requires-clause-second_list
push_watched-requires-clause-second_list c = search (arith, listed_one)
