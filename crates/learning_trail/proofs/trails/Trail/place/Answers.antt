use Rattle.std.proofs.Common.{◌-◌, ◌<◌, length, reverse, sym, ◌∙◌, ap, subst, arith, get_or, Some}
use Rattle.std.proofs.lemmas.List.{get_or_default}
use Rattle.learning_trail.specs.Steps.{Trailed, IsAt}
use Rattle.learning_trail.proofs.PlacedSteps.{placed_at}
use Rattle.learning_trail.proofs.trails.Trail.place.Goals as goal

pub returns-then-v-eq0 : goal.returns-then-v-eq0
returns-then-v-eq0 c = λ at k h same.
    let inside = c.self.inside in
    let f = placed_at inside.places.items (length inside.values)
    (reverse inside.steps.items) at k c.self.invariant.placed c.self.invariant.kept.in_range
    (subst (λ (t : Trailed). IsAt t.steps at k) (sym c.self.view_is) h) in
    let one = f.from_one in
    absurd (omega (arith, one, same, c.if-v-eq0.true))

pub returns-then-v-len : goal.returns-then-v-len
returns-then-v-len c = λ at k h same.
    let inside = c.self.inside in
    let f = placed_at inside.places.items (length inside.values)
    (reverse inside.steps.items) at k c.self.invariant.placed c.self.invariant.kept.in_range
    (subst (λ (t : Trailed). IsAt t.steps at k) (sym c.self.view_is) h) in
    let high = f.in_range in
    let count = c.self.invariant.places in
    absurd (omega (arith, high, same, count, c.if-v-len.true, c.len.ensures, inside.places.ok.0))

pub returns : goal.returns
returns c = λ at k h same.
    let inside = c.self.inside in
    let f = placed_at inside.places.items (length inside.values)
    (reverse inside.steps.items) at k c.self.invariant.placed c.self.invariant.kept.in_range
    (subst (λ (t : Trailed). IsAt t.steps at k) (sym c.self.view_is) h) in
    let one = f.from_one in
    let high = f.in_range in
    let count = c.self.invariant.places in
    let lt : c.args.v - 1 < length inside.places.items = omega (arith, one, high, same, count) in
    ap (λ n. Some n) (c.index.ensures ∙ get_or_default inside.places.items (c.args.v - 1) c.index.result.now 0 lt
    ∙ ap (λ v. get_or inside.places.items (v - 1) 0) (sym same) ∙ f.at_place)
