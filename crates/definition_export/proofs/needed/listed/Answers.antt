use Rattle.std.proofs.Common.{◌∙◌, ap, map, slice_index, arith}
use Rattle.std.proofs.lemmas.List.{take_all}
use Rattle.definition_export.proofs.OrderedGates.{listed_more, not_listed}
use Rattle.definition_export.proofs.needed.listed.Goals as goal

pub push-requires : goal.push-requires
push-requires c = search (arith, not_listed)

pub loop-place-preserved : goal.loop-place-preserved
loop-place-preserved c = search (arith, listed_more)

pub returns : goal.returns
returns c = c.loop-place.invariant
    ∙ ap (map (slice_index c.args.terms.now)) (take_all c.loop-place.place-index c.args.places.now
    c.loop-place-test.false)
