use Rattle.std.proofs.Common.{◌-◌, length}
use Rattle.cdcl_core.specs.Chains.{AddsLists}
use Rattle.cdcl_core.proofs.watches.extend.Given as goal

abbrev pub invariant-loop-heads : goal.invariant-loop-heads
invariant-loop-heads l = AddsLists l.fn.heads l.heads

abbrev pub decreases-loop-heads : goal.decreases-loop-heads
decreases-loop-heads l = l.wanted - length l.heads.items
