use Rattle.std.proofs.Common.{arith}
use Rattle.ordered_gates.proofs.MovedIds.{id_past, id_straight, id_turned_by}
use Rattle.ordered_gates.proofs.ids.turned_id.Goals as goal

pub returns-then-place-gates : goal.returns-then-place-gates
returns-then-place-gates c = search (arith, id_past)

pub returns-then-left-right : goal.returns-then-left-right
returns-then-left-right c = search (arith, id_straight)

pub returns-in-0 : goal.returns-in-0
returns-in-0 c = search (arith, id_turned_by)

pub returns-in-1 : goal.returns-in-1
returns-in-1 c = search (arith, id_turned_by)

pub returns-in_default : goal.returns-in_default
returns-in_default c = search (arith, id_turned_by)
