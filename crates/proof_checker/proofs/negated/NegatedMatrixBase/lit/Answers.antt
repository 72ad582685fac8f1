use Rattle.std.proofs.Common.{arith}
use Rattle.proof_checker.proofs.MatrixPlaces.{place_below}
use Rattle.proof_checker.proofs.ShortenedClauses.{range_length}
use Rattle.proof_checker.proofs.negated.NegatedMatrixBase.lit.Goals as goal

pub last_literal-requires : goal.last_literal-requires
last_literal-requires c = search (arith, place_below, range_length)
