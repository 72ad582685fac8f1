use Rattle.std.proofs.Common.{◌∙◌, ap, [], ◌∷◌, reverse, sym, subst, arith}
use Rattle.std.proofs.lemmas.List.{reverse-append}
use Rattle.definition_export.proofs.ClosedPlaces.{IsClosing, closing_first, closing_more, waiting_within, all_closed}
use Rattle.definition_export.proofs.needed.closed.Goals as goal

pub loop-place-init : goal.loop-place-init
loop-place-init c = search (arith, closing_first)

pub add_sides-requires-clause-within : goal.add_sides-requires-clause-within
add_sides-requires-clause-within c = waiting_within c.args.log.now.entries c.args.terms.now c.args.waiting
    c.loop-place.waiting (reverse c.loop-place.places.items) c.loop-place.invariant c.in-Some.place
    c.in-Some.ensures.some.was

pub loop-place-preserved : goal.loop-place-preserved
loop-place-preserved c =
    let small = waiting_within c.args.log.now.entries c.args.terms.now c.args.waiting
    c.loop-place.waiting (reverse c.loop-place.places.items) c.loop-place.invariant c.in-Some.place
    c.in-Some.ensures.some.was in
    subst (IsClosing c.args.log.now.entries c.args.terms.now c.args.waiting c.add_sides.new.waiting)
    (sym (ap reverse c.in_ok-push.ensures.items ∙ reverse-append c.loop-place.places.items (c.in-Some.place ∷ [])))
    (closing_more c.args.log.now.entries c.args.terms.now c.args.waiting c.loop-place.waiting c.pop.new.self
    c.add_sides.new.waiting c.in-Some.place (reverse c.loop-place.places.items) c.requires.terms
    c.loop-place.invariant c.in-Some.ensures.some c.in_ok-add_sides.ensures small)

pub returns : goal.returns
returns c = all_closed c.args.log.now.entries c.args.terms.now c.args.waiting c.loop-place.waiting
    (reverse c.loop-place.places.items) c.loop-place.invariant c.in_default.ensures.none
