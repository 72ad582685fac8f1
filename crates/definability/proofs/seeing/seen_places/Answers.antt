use Rattle.std.proofs.Common.{get_or, arith}
use Rattle.std.proofs.lemmas.Option.{slice_get-get_or}
use Rattle.dq_lits.proofs.FormulaVariables.{seen_as}
use Rattle.definability.proofs.DeclaredPlaces.{seen_among, no_places, places_more, all_places}
use Rattle.definability.proofs.seeing.seen_places.Goals as goal

pub loop-x-init : goal.loop-x-init
loop-x-init c = search (arith, no_places)

pub loop-x-preserved : goal.loop-x-preserved
loop-x-preserved c =
    search (
      arith,
      (seen_among c.args.f.now c.every_formula_is_lawful.ensures c.args.y c.seen-x-items.result.now c.requires.declared c.seen-x-items.ensures.set c.loop-x.x-index 0 c.loop-x-test.true),
      (places_more c.args.f.now.universals c.seen-x-items.result.now c.loop-x.x-index (get_or c.seen-x-items.result.now c.loop-x.x-index 0) c.place_of.result c.loop-x.places.items c.push.new.self.items (slice_get-get_or c.seen-x-items.result.now c.loop-x.x-index 0 c.loop-x-test.true)),
      (slice_get-get_or c.seen-x-items.result.now c.loop-x.x-index 0 c.loop-x-test.true),
    )

pub returns : goal.returns
returns c = λ e found.
    all_places c.args.f.now.universals c.seen-x-items.result.now e.sees c.loop-x.x-index c.loop-x.places.items
    (seen_as c.args.f.now c.args.y c.seen-x-items.result.now c.seen-x-items.ensures.set e found)
    c.loop-x-test.false c.loop-x.invariant
