use Rattle.std.proofs.Common.{arith}
use Rattle.cdcl_core.proofs.LinkedLists.{linked_in, linked_none}
use Rattle.cdcl_core.proofs.watches.no_watches.Goals as goal

pub returns-clause-linked : goal.returns-clause-linked
returns-clause-linked c = search (arith, linked_in, linked_none)
