use Rattle.expansion.proofs.SharedSets.{empty_index}
use Rattle.expansion.proofs.first_rows.FirstRows.new.Goals as goal

pub returns : goal.returns
returns c =
    empty_index c.args.f.now c.in_ok-leaders.leaders.items c.in_ok-orders.orders.items c.existentials.result.now
    c.in_ok-leaders.ensures c.existentials.ensures c.in_ok-orders.ensures
