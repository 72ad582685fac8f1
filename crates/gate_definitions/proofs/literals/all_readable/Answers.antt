use Rattle.std.proofs.Common.{subst}
use Rattle.definition_order.specs.Order.{MayRead}
use Rattle.gate_definitions.proofs.Readable.{readable_more, readable_whole}
use Rattle.gate_definitions.proofs.literals.all_readable.Goals as goal

pub loop-l-preserved : goal.loop-l-preserved
loop-l-preserved c = λ e known.
    readable_more c.args.output.now.f.now c.args.output.now.ranks.now e c.args.lits.now c.loop-l.l-index c.l-item.result
    c.loop-l-test.true c.l-item.is (c.loop-l.invariant e known)
    (subst (MayRead c.args.output.now.f.now c.args.output.now.ranks.now e) c.var.ensures.value
    ((c.may_read.ensures e known).0 c.if-not-may_read.false))

pub returns : goal.returns
returns c = λ _ e known. readable_whole c.args.output.now.f.now c.args.output.now.ranks.now e c.args.lits.now
    c.loop-l.l-index c.loop-l-test.false (c.loop-l.invariant e known)
