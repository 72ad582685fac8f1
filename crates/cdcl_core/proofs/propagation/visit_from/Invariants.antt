use Rattle.std.proofs.Common.{◌+◌, ◌-◌, ◌≤◌}
use Rattle.cdcl_core.specs.Visits.{AreOnTrail}
use Rattle.cdcl_core.proofs.propagation.visit_from.Given as goal

abbrev pub invariant-visits : goal.invariant-visits
invariant-visits l = record {
  on_trail : AreOnTrail l.arena.clauses l.fn.trail l.trail l.fn.first l.first l.fn.second l.second l.at l.second_at;
  order : l.second_at ≤ l.at;
}

abbrev pub decreases-visits : goal.decreases-visits
decreases-visits l = (l.fn.trail.room - l.at) + (l.fn.trail.room - l.second_at)
