use Rattle.std.proofs.Common.{◌+◌, ◌<◌, ◌++◌, length, map, sym, ◌∙◌, ap, subst}
use Rattle.std.specs.List.{All}
use Rattle.definability.proofs.DeclaredPlaces.{shared_are_places, shared_within}
use Rattle.definition_order.proofs.Declared.{some_existential}
use Rattle.definability.proofs.seeing.shared_places.Goals as goal

pub push_existentials-requires : goal.push_existentials-requires
push_existentials-requires c =
    let f = c.args.f.now in
    subst (All (λ k. k < length f.existentials)) (sym c.deref.ensures.value)
    (some_existential f c.args.y (All (λ k. k < length f.existentials) c.in_ok-shared.shared.items) c.requires.declared
    (λ e found. shared_within f c.args.ranks.now e c.in_ok-shared.shared.items (c.in_ok-shared.ensures e found)))

pub returns : goal.returns
returns c = λ e found.
    let f = c.args.f.now in
    shared_are_places f c.args.ranks.now c.every_formula_is_lawful.ensures e c.in_ok-places.places.items
    c.in_ok-shared.shared.items c.push_existentials.new.places.items
    (c.in_ok-places.ensures e found) (c.in_ok-shared.ensures e found)
    (c.in_ok-push_existentials.ensures ∙ ap (λ ks. c.in_ok-places.places.items ++ map (λ k. length f.universals + k) ks)
    c.deref.ensures.value)
