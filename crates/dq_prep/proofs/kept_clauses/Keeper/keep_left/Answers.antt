use Rattle.std.proofs.Common.{arith}
use Rattle.list_laws.proofs.Results.{on_ok}
use Rattle.dq_prep.proofs.KeptSoFar.{kept-room, left-next, left-small}
use Rattle.dq_prep.proofs.kept_clauses.Keeper.keep_left.Goals as goal

pub add_clause-requires-clause-in_range : goal.add_clause-requires-clause-in_range
add_clause-requires-clause-in_range c = search (arith, left-small)

pub add_clause-requires-clause-few : goal.add_clause-requires-clause-few
add_clause-requires-clause-few c = search (arith, kept-room)

pub returns-clause-kept : goal.returns-clause-kept
returns-clause-kept c = search (arith, on_ok, left-next)
