use Rattle.std.proofs.Common.{◌≡◌, ◌≤◌, replicate}
use Rattle.expansion.specs.FirstRows.{no_order}
use Rattle.expansion.proofs.first_rows.empty_orders.Given as goal

abbrev pub invariant-loop : goal.invariant-loop
invariant-loop l = (l.counter ≤ l.n) × (l.orders.items ≡ replicate l.counter no_order)
