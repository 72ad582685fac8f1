use Rattle.std.proofs.Common.{◌+◌, arith}
use Rattle.cdcl_core.proofs.VisitedClauses.{visitable_turned, on_trail_turned, trail_turned, trail_conflict, trail_next}
use Rattle.cdcl_core.proofs.propagation.visit_from.Goals as goal

pub visit_at-requires-clause-visitable : goal.visit_at-requires-clause-visitable
visit_at-requires-clause-visitable c =
    visitable_turned c.args.arena.now.clauses c.visits.trail c.visits.first c.visits.second
    c.visits.invariant.on_trail.visitable

pub returns-in-Some : goal.returns-in-Some
returns-in-Some c =
    let a = c.args in
    let clauses = a.arena.now.clauses in
    let turned = on_trail_turned clauses a.trail.now c.visits.trail a.first.now c.visits.first a.second.now
    c.visits.second c.visits.at c.visits.second_at c.visits.invariant.on_trail in
    trail_turned clauses a.trail.now c.visit_at.new.trail a.second.now c.visit_at.new.these a.first.now c.visits.first
    c.in-Some.id
    (trail_conflict clauses a.trail.now c.visits.trail c.visit_at.new.trail a.second.now c.visits.second
    c.visit_at.new.these a.first.now c.visits.first c.visits.second_at c.visits.at c.visit_at.result turned
    c.visit_at.ensures c.in-Some.id c.in-Some.is)

pub visits-preserved-then-not-is_more : goal.visits-preserved-then-not-is_more
visits-preserved-then-not-is_more c =
    let a = c.args in
    let clauses = a.arena.now.clauses in
    let turned = on_trail_turned clauses a.trail.now c.visits.trail a.first.now c.visits.first a.second.now
    c.visits.second c.visits.at c.visits.second_at c.visits.invariant.on_trail in
    record {
      on_trail = on_trail_turned clauses a.trail.now c.visit_at.new.trail a.second.now c.visit_at.new.these a.first.now
          c.visits.first (c.visits.second_at + 1) c.visits.at
          (trail_next clauses a.trail.now c.visits.trail c.visit_at.new.trail a.second.now c.visits.second
          c.visit_at.new.these a.first.now c.visits.first c.visits.second_at c.visits.at c.visit_at.result turned
          c.visit_at.ensures c.in_default.is);
      order = omega (arith, c.if-second_at-at.true);
    }

pub returns-in-Some-visit_at : goal.returns-in-Some-visit_at
returns-in-Some-visit_at c =
    let a = c.args in
    let v = c.visit_at-then-is_more in
    trail_conflict a.arena.now.clauses a.trail.now c.visits.trail v.new.trail a.first.now c.visits.first v.new.these
    a.second.now c.visits.second c.visits.at c.visits.second_at v.result c.visits.invariant.on_trail v.ensures
    c.in-Some-visit_at.id c.in-Some-visit_at.is

pub visits-preserved : goal.visits-preserved
visits-preserved c =
    let a = c.args in
    let v = c.visit_at-then-is_more in
    record {
      on_trail = trail_next a.arena.now.clauses a.trail.now c.visits.trail v.new.trail a.first.now c.visits.first
          v.new.these a.second.now c.visits.second c.visits.at c.visits.second_at v.result c.visits.invariant.on_trail
          v.ensures c.in_default-visit_at.is;
      order = omega (arith, c.visits.invariant.order);
    }
