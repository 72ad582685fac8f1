use Rattle.std.proofs.Common.{◌++◌, get_or, ◌∙◌, ap, append-nil, arith}
use Rattle.std.proofs.lemmas.List.{get_or_default, take_all}
use Rattle.definability.proofs.SelectedPlaces.{links_at, all_active, active_more, no_group}
use Rattle.definability.proofs.definability.Definability.active.Goals as goal

pub loop-place-init : goal.loop-place-init
loop-place-init c = search (arith, append-nil)

pub loop-place-preserved : goal.loop-place-preserved
loop-place-preserved c =
    let p = c.args.self.now in
    let places = c.args.places.now in
    let i = c.loop-place.place-index in
    let place = get_or places i 0 in
    active_more p places i place c.loop-place.active.items c.push.new.self.items c.index.result.now c.loop-place-test.true
    (get_or_default places i place 0 c.loop-place-test.true) c.loop-place.invariant c.in_ok-push.ensures.items
    (c.index.ensures ∙ get_or_default p.links.items place c.index.result.now no_group
    (c.requires i 0 c.loop-place-test.true))

pub returns : goal.returns
returns c =
    let p = c.args.self.now in
    all_active p c.args.places.now c.loop-place.active.items c.requires
    (c.loop-place.invariant ∙ ap (λ ps. (p.first.groups.items ++ p.second.groups.items) ++ links_at p ps)
    (take_all c.loop-place.place-index c.args.places.now c.loop-place-test.false))
