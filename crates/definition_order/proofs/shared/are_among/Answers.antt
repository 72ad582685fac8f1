use Rattle.std.proofs.Common.{get_or, refl}
use Rattle.dq_formula.proofs.Subsets.{distinct_universals}
use Rattle.definition_order.proofs.OrderedUniversals.{passed_more, none_among, all_among}
use Rattle.definition_order.proofs.shared.are_among.Goals as goal

pub returns-in-None : goal.returns-in-None
returns-in-None c =
    none_among c.args.xs.now c.args.ys.now c.loop-x.x-index c.loop-x.at
    (get_or c.args.xs.now c.loop-x.x-index 0) c.loop-x.invariant c.loop-x-test.true refl
    (c.in-None.ensures.nowhere refl)

pub loop-x-preserved : goal.loop-x-preserved
loop-x-preserved c =
    let f = c.args.f.now in
    let there = c.in-Some.ensures.there in
    passed_more f.universals c.args.xs.now c.args.ys.now c.loop-x.x-index c.loop-x.at c.in-Some.place
    (get_or c.args.xs.now c.loop-x.x-index 0)
    (distinct_universals f c.every_formula_is_lawful.ensures.prefix) c.requires.first c.requires.second
    c.loop-x.invariant c.loop-x-test.true refl there.1 there.2

pub returns : goal.returns
returns c = all_among c.args.xs.now c.args.ys.now c.loop-x.x-index c.loop-x.at c.loop-x.invariant c.loop-x-test.false
