use Rattle.std.proofs.Common.{arith}
use Rattle.candidate_functions.proofs.rules.by_rules.Goals as goal
use Rattle.aig_graph.proofs.LargerGraphs.{grown_twice}

pub returns-in_err-put_rules-clause-extends : goal.returns-in_err-put_rules-clause-extends
returns-in_err-put_rules-clause-extends c = search (arith, grown_twice)

pub returns-clause-extends : goal.returns-clause-extends
returns-clause-extends c = search (arith, grown_twice)
