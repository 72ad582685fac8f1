use Rattle.std.proofs.Common.{subst}
use Rattle.std.specs.List.{All}
use Rattle.std.proofs.lemmas.List.{take_all}
use Rattle.std.proofs.lemmas.List.Elements.{All-more}
use Rattle.known_functions.specs.Stating.{FitsRule}
use Rattle.known_functions.proofs.stated_rules.are_fitting.Goals as goal

pub loop-l-preserved : goal.loop-l-preserved
loop-l-preserved c e at = All-more (FitsRule c.args.y e c.args.bit) c.args.clause.now c.loop-l.l-index c.l-item.result
    c.loop-l-test.true (c.loop-l.invariant e at)
    (subst (FitsRule c.args.y e c.args.bit) c.l-item.is (c.is_fitting.ensures e at c.if-not-is_fitting.false))

pub returns : goal.returns
returns c e at is = subst (All (FitsRule c.args.y e c.args.bit))
    (take_all c.loop-l.l-index c.args.clause.now c.loop-l-test.false) (c.loop-l.invariant e at)
