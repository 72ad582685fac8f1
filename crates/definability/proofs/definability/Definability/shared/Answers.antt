use Rattle.std.proofs.Common.{false, get_or, sym, ◌∙◌, ap}
use Rattle.std.proofs.lemmas.List.{get_or_default}
use Rattle.std.proofs.lemmas.Option.{get_or_from_slice_get}
use Rattle.dq_lits.specs.Literal.{positive, variable_of}
use Rattle.aig_graph.specs.declared.nodes.Node.TheVariants.{Input}
use Rattle.definability.specs.Copies.{copies_of}
use Rattle.definability.proofs.SelectedPlaces.{mapped_more}
use Rattle.definability.proofs.definability.Definability.shared.Goals as goal

pub loop-place-preserved : goal.loop-place-preserved
loop-place-preserved c =
    let lits = copies_of c.args.self.now.first in
    let places = c.args.places.now in
    let place = get_or places c.loop-place.place-index 0 in
    let copy = get_or_from_slice_get lits place c.copy_at-copy.result (positive 0) c.copy_at-copy.ensures in
    mapped_more (λ k. (variable_of (get_or lits k (positive 0)), Input k false)) places c.loop-place.place-index place
    c.loop-place.shared.items c.push.new.self.items (c.var.result, c.input.result)
    c.loop-place-test.true (get_or_default places c.loop-place.place-index place 0 c.loop-place-test.true)
    c.loop-place.invariant c.in_ok-push.ensures.items
    (ap (λ v. (v, c.input.result)) (c.var.ensures.value ∙ ap variable_of (sym copy)) ∙ ap
    (λ n. (variable_of (get_or lits place (positive 0)), n)) c.input.ensures)
