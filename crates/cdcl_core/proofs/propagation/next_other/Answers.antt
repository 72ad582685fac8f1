use Rattle.std.proofs.Common.{arith}
use Rattle.std.proofs.lemmas.Bool.{false≢true}
use Rattle.cdcl_core.proofs.VisitedClauses.{read_watch}
use Rattle.cdcl_core.proofs.NextOthers.{none_between, one_between, none_behind}
use Rattle.cdcl_core.proofs.propagation.next_other.Goals.{else-ne-via-then-ne+else-not-is_false, else-ne-via-else-ne}
use Rattle.cdcl_core.proofs.propagation.next_other.Goals as goal

pub loop-place-init : goal.loop-place-init
loop-place-init c = search (arith, none_between)

pub loop-place-preserved : goal.loop-place-preserved
loop-place-preserved c =
    search (arith, one_between, else-ne-via-then-ne+else-not-is_false, read_watch, else-ne-via-else-ne, false≢true)

pub returns : goal.returns
returns c = search (arith, none_behind)
