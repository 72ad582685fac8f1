use Rattle.std.proofs.Common.{arith}
use Rattle.repair_loop.proofs.Turned.{ended_then}
use Rattle.repair_loop.proofs.search_states.SearchState.search_on.Goals as goal

pub run-requires-clause-search : goal.run-requires-clause-search
run-requires-clause-search g c = c.in_ok-follow.ensures.search c.args.graph.now c.requires.search

pub returns-clause-ended : goal.returns-clause-ended
returns-clause-ended g c = search (arith, ended_then)
