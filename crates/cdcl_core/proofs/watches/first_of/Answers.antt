use Rattle.std.proofs.Common.{arith}
use Rattle.cdcl_core.proofs.LinkedLists.{taken_list}
use Rattle.cdcl_core.proofs.watches.first_of.Goals as goal

pub returns : goal.returns
returns c = search (arith, taken_list)
