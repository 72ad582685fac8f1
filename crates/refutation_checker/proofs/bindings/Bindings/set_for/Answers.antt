use Rattle.std.proofs.Common.{arith}
use Rattle.refutation_checker.proofs.BoundVariables.{leader_set}
use Rattle.refutation_checker.proofs.bindings.Bindings.set_for.Goals as goal

pub returns-in-Existential-clause-set : goal.returns-in-Existential-clause-set
returns-in-Existential-clause-set c = search (arith, leader_set)
