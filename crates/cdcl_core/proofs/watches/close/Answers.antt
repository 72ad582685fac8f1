use Rattle.std.proofs.Common.{arith}
use Rattle.cdcl_core.proofs.watches.close.Goals as goal

pub returns : goal.returns
returns c = search arith
