use Rattle.std.proofs.Common.{◌≡◌}
use Rattle.cdcl_core.specs.Chains.{with_open, left_to_visit}
use Rattle.cdcl_core.specs.Visits.{IsPuttingBack}
use Rattle.cdcl_core.proofs.propagation.put_all_back.Given as goal

abbrev pub invariant-loop-at : goal.invariant-loop-at
invariant-loop-at l = record {
  back : IsPuttingBack (with_open l.fn.these l.fn.list) (with_open l.these l.kept) l.fn.list.literal l.at;
  literal : l.kept.literal ≡ l.fn.list.literal;
}

abbrev pub decreases-loop-at : goal.decreases-loop-at
decreases-loop-at l = left_to_visit (with_open l.these l.kept) l.at
