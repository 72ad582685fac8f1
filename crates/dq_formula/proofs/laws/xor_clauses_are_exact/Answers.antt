use Rattle.dq_formula.proofs.XorClauses.{xor_clauses_are_exact}
use Rattle.dq_formula.proofs.laws.xor_clauses_are_exact.Goals as goal

pub returns : goal.returns
returns c = xor_clauses_are_exact
