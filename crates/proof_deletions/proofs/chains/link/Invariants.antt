use Rattle.std.proofs.Common.{◌≤◌, length}
use Rattle.proof_deletions.specs.Chains.{AreChained}
use Rattle.proof_deletions.proofs.chains.link.Given as goal

abbrev pub invariant-loop-place : goal.invariant-loop-place
invariant-loop-place l = record {
  within : l.place ≤ length l.table;
  chained : AreChained l.table l.place l.heads.items l.nexts.items;
}

abbrev pub decreases-loop-place : goal.decreases-loop-place
decreases-loop-place l = l.place
