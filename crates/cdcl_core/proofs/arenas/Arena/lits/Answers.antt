use Rattle.std.proofs.Common.{arith}
use Rattle.learning_trail.proofs.ClausePieces.{pieces-length}
use Rattle.cdcl_core.proofs.arenas.Arena.lits.Goals as goal

pub piece-requires-clause-at : goal.piece-requires-clause-at
piece-requires-clause-at c = search (arith, pieces-length)
