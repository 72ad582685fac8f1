use Rattle.std.proofs.Common.{◌≡◌, ◌<◌, length, eqb, ap, subst, arith}
use Rattle.std.specs.List.{IsDistinct}
use Rattle.dq_lits.specs.Formula.{Dqbf}
use Rattle.dq_formula.proofs.Sorted.{rising_listed, rises_behind, none_rise}
use Rattle.dq_formula.proofs.formula.Formula.are_in_order.Goals as goal

pub loop-x-preserved : goal.loop-x-preserved
loop-x-preserved c = λ rise.
    let us = c.args.self.now.universals in
    let below : c.place_of-place.result < length us = omega (
      arith,
      c.if-count-place.false,
      ap length c.universals-count.ensures,
    ) in
    c.loop-x.invariant (rises_behind us c.in-Some.behind.now c.loop-x.rest.now c.in-Some.x.now c.place_of-place.result
    c.loop-x.least (length us) c.in-Some.ensures.cases.0 c.place_of-place.ensures.place c.if-place-least.false below
    rise)

pub returns : goal.returns
returns c = λ _.
    let us = c.args.self.now.universals in
    let same : c.self.inside.universals ≡ us = ap (λ (f : Dqbf). f.universals) c.self.view_is in
    let distinct : IsDistinct eqb us = subst (IsDistinct eqb) same c.self.invariant.distinct_universals in
    rising_listed us c.args.xs.now distinct c.requires
    (c.loop-x.invariant (none_rise us c.loop-x.rest.now c.loop-x.least (length us) c.in_default.ensures.cases))
