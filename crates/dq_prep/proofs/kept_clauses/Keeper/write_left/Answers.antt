use Rattle.std.proofs.Common.{arith}
use Rattle.list_laws.proofs.Results.{on_ok}
use Rattle.dq_prep.proofs.Remainders.{tautology-at}
use Rattle.dq_prep.proofs.KeptSoFar.{left-tautology, left-reduced}
use Rattle.dq_prep.proofs.kept_clauses.Keeper.write_left.Goals as goal

pub returns-then-self-place-clause-left : goal.returns-then-self-place-clause-left
returns-then-self-place-clause-left c = search (arith, tautology-at, on_ok, left-tautology)

pub returns-clause-left : goal.returns-clause-left
returns-clause-left c = search (arith, tautology-at, on_ok, left-reduced)
