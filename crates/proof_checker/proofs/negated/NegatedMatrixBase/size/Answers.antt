use Rattle.std.proofs.Common.{arith}
use Rattle.proof_checker.proofs.ShortenedClauses.{range_length}
use Rattle.proof_checker.proofs.negated.NegatedMatrixBase.size.Goals as goal

pub returns-in-Last : goal.returns-in-Last
returns-in-Last c = search (arith, range_length)
