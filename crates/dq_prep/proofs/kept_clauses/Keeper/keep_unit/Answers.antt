use Rattle.std.proofs.Common.{arith}
use Rattle.list_laws.proofs.Results.{on_ok}
use Rattle.dq_prep.proofs.KeptSoFar.{kept-room, unit-next, nothing-next, unit-small}
use Rattle.dq_prep.proofs.kept_clauses.Keeper.keep_unit.Goals as goal

pub add_clause-requires-clause-in_range : goal.add_clause-requires-clause-in_range
add_clause-requires-clause-in_range c = search (arith, unit-small)

pub add_clause-requires-clause-few : goal.add_clause-requires-clause-few
add_clause-requires-clause-few c = search (arith, kept-room)

pub returns-in-Some : goal.returns-in-Some
returns-in-Some c = search (arith, on_ok, unit-next)

pub returns-in-None : goal.returns-in-None
returns-in-None c = search (arith, nothing-next)
