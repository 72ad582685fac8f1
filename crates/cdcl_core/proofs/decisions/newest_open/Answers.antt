use Rattle.std.proofs.Common.{arith}
use Rattle.learning_trail.specs.Steps.{literals_of}
use Rattle.cdcl_core.proofs.EqualHeads.{true_alike, true_within, true_further, seen_none}
use Rattle.cdcl_core.proofs.decisions.newest_open.Goals as goal

pub loop-id-preserved-else-is_some : goal.loop-id-preserved-else-is_some
loop-id-preserved-else-is_some c = search (arith, true_further, true_within, seen_none)

pub loop-id-preserved : goal.loop-id-preserved
loop-id-preserved c =
    let clauses = c.args.clauses.now.clauses in
    let trues = literals_of c.args.trail.now.steps in
    let start = c.start-start.result in
    let before = c.start-start.ensures.before in
    let within = c.loop-id.invariant.within in
    record {
      within = omega (arith, before, within);
      satisfied =
          true_further clauses trues c.loop-id.id start c.args.span.down_to c.args.span.from
          c.loop-id.invariant.satisfied
          (λ i d low down lt at.
          true_alike clauses trues c.lits.result.now start c.loop-id.id c.lits.ensures c.start-start.ensures.same
          (c.begins_true.ensures c.if-not-begins_true.false) i d low lt at);
    }
