use Rattle.std.proofs.Common.{◌≡◌, ◌+◌, length}
use Rattle.rup_core.specs.Paging.{AreSamePages}
use Rattle.rup_core.proofs.stores.add_pages.Given as goal

abbrev pub invariant-loop : goal.invariant-loop
invariant-loop l = record {
  same : AreSamePages l.initial.pages.items l.pages.items;
  longer : length l.pages.items ≡ length l.initial.pages.items + l.counter;
}
