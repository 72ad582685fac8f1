use Rattle.std.proofs.Common.{ℕ, ◌-◌, ◌<◌, List, length, sym, ◌∙◌, ap, subst, arith}
use Rattle.std.specs.List.{All}
use Rattle.pec_front.specs.Boxes.{BlackBox, driven}
use Rattle.pec_front.specs.Copies.{IsKnownOut}
use Rattle.pec_front.proofs.MarkedCopies.{each-drives}
use Rattle.pec_front.proofs.copies.Copies.mark_all.Goals as goal

pub mark-requires-clause-known : goal.mark-requires-clause-known
mark-requires-clause-known c =
    let boxes = c.args.boxes.now in
    let box = c.index-boxes-left-in-loop-left.result in
    let k = c.loop-left.left - 1 in
    let further = c.loop-left.self.further.now in
    let within = c.loop-left.invariant.within in
    let some = c.loop-left-test.true in
    let below : k < length boxes = omega (arith, within, some) in
    subst (λ (os : List ℕ). All (IsKnownOut further) os)
    (sym (c.outs.ensures ∙ ap (λ (b : BlackBox). b.outs) c.index-boxes-left-in-loop-left.is))
    (each-drives (IsKnownOut further) boxes k box below
    (subst (λ (vs : List ℕ). All (IsKnownOut vs) (driven boxes)) (sym c.loop-left.invariant.same) c.requires.known))
