use Rattle.std.proofs.Common.{◌∙◌, subst, arith}
use Rattle.cdcl_core.specs.Visits.{IsListVisited}
use Rattle.cdcl_core.proofs.VisitedClauses.{at_holds}
use Rattle.cdcl_core.proofs.propagation.visit_at.Goals as goal

pub visit_list-requires-clause-false_now : goal.visit_list-requires-clause-false_now
visit_list-requires-clause-false_now c = search (arith, at_holds)

pub returns : goal.returns
returns c =
    let a = c.args in
    record {
      literal = c.in-Some.l;
      here = c.in-Some.ensures.at;
      visited = subst (λ k. IsListVisited a.arena.now.clauses a.trail.now c.visit_list.new.trail a.these.now
          c.visit_list.new.these a.others.now k c.visit_list.result) (c.of-code.ensures ∙ c.not.ensures)
          c.visit_list.ensures;
    }
