use Rattle.std.proofs.Common.{◌+◌, ◌≤◌, length, take, All}
use Rattle.cdcl_core.specs.Chains.{AddsLists, place_of}
use Rattle.cdcl_core.proofs.watches.add_lists.Given as goal

abbrev pub invariant-loop-l : goal.invariant-loop-l
invariant-loop-l l = record {
  added : AddsLists l.fn.heads l.heads;
  lists : All (λ k. place_of k + 1 ≤ length l.heads.items) (take l.l-index l.lits);
}
