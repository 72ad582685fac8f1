use Rattle.std.proofs.Common.{filter, ◌∙◌, ap}
use Rattle.definition_order.specs.Order.{MayRead}
use Rattle.dq_lits.specs.Formula.{declared}
use Rattle.definability.specs.Copies.{is_copied_at}
use Rattle.definability.proofs.KeptPlaces.{copied_among}
use Rattle.definability.proofs.definability.Definability.shared_copies.Goals as goal

pub returns : goal.returns
returns c = λ e found.
    let flags = c.args.self.now.copied.items in
    copied_among (declared c.args.f.now) (MayRead c.args.f.now c.args.ranks.now e) flags c.in_ok-all.all.items c.in_ok-places.places.items
    (c.in_ok-all.ensures e found)
    (c.in_ok-places.ensures ∙ ap (λ fs. filter (is_copied_at fs) c.deref-2.result.now) c.deref.ensures.value
    ∙ ap (filter (is_copied_at flags)) c.deref-2.ensures.value)
