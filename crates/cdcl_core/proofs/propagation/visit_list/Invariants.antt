use Rattle.std.proofs.Common.{◌≡◌}
use Rattle.cdcl_core.specs.Chains.{HasList, with_open, left_to_visit}
use Rattle.cdcl_core.specs.Visits.{IsVisiting}
use Rattle.cdcl_core.proofs.propagation.visit_list.Given as goal

abbrev pub invariant-visits : goal.invariant-visits
invariant-visits l = record {
  visiting : IsVisiting l.arena.clauses l.fn.trail l.trail l.fn.these (with_open l.these l.list) l.others l.fn.l l.at;
  literal : l.list.literal ≡ l.fn.l;
  list : HasList l.these l.fn.l;
}

abbrev pub decreases-visits : goal.decreases-visits
decreases-visits l = left_to_visit (with_open l.these l.list) l.at
