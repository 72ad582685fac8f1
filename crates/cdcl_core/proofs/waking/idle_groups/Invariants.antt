use Rattle.std.proofs.Common.{◌≡◌, length}
use Rattle.cdcl_core.specs.Waking.{AreSelectors}
use Rattle.cdcl_core.proofs.waking.idle_groups.Given as goal

abbrev pub invariant-loop-v : goal.invariant-loop-v
invariant-loop-v l = record {
  long : length l.flags.items ≡ l.v;
  selectors : AreSelectors l.log.entries l.flags.items;
}
