use Rattle.std.proofs.Common.{arith}
use Rattle.proof_checker.proofs.MatrixPlaces.{gate_left, gate_right, gate_both}
use Rattle.proof_checker.proofs.negated.gate_clause.Goals as goal

pub returns-in-0 : goal.returns-in-0
returns-in-0 c = search (arith, gate_left)

pub returns-in-1 : goal.returns-in-1
returns-in-1 c = search (arith, gate_right)

pub returns-in-2 : goal.returns-in-2
returns-in-2 c = search (arith, gate_both)
