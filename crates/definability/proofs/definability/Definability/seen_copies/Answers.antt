use Rattle.std.proofs.Common.{filter, ◌∙◌, ap}
use Rattle.std.specs.List.{Contains}
use Rattle.definability.specs.Copies.{is_copied_at}
use Rattle.definability.proofs.KeptPlaces.{copied_among}
use Rattle.definability.proofs.definability.Definability.seen_copies.Goals as goal

pub returns : goal.returns
returns c = λ e found.
    let flags = c.args.self.now.copied.items in
    copied_among c.args.f.now.universals (Contains e.sees) flags c.in_ok-all.all.items c.in_ok-places.places.items
    (c.in_ok-all.ensures e found)
    (c.in_ok-places.ensures ∙ ap (λ fs. filter (is_copied_at fs) c.deref-2.result.now) c.deref.ensures.value
    ∙ ap (filter (is_copied_at flags)) c.deref-2.ensures.value)
