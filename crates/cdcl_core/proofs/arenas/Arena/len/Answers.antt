use Rattle.std.proofs.Common.{arith}
use Rattle.learning_trail.proofs.ClausePieces.{pieces-length}
use Rattle.cdcl_core.proofs.arenas.Arena.len.Goals as goal

pub returns : goal.returns
returns c = search (arith, pieces-length)
