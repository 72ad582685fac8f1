use Rattle.std.proofs.Common.{◌∙◌, set, ap}
use Rattle.dq_lits.specs.Literal.{variable_of}
use Rattle.definability.proofs.SelectedPlaces.{written_more, written_all}
use Rattle.definability.proofs.reading.row_of_values.Goals as goal

pub loop-place-preserved : goal.loop-place-preserved
loop-place-preserved g c =
    written_more (λ l. g.O.Oracle.values c.args.oracle.now (variable_of l)) c.args.lits.now c.loop-place.place
    c.index-lits-place.result c.loop-place.row c.set.new.self c.loop-place-test.true
    c.loop-place.invariant
    (c.set.ensures ∙ ap (set c.loop-place.row c.loop-place.place)
    (c.value-bit.ensures ∙ ap (g.O.Oracle.values c.args.oracle.now)
    (c.var.ensures.value ∙ ap variable_of c.index-lits-place.is)))

pub returns : goal.returns
returns g c =
    written_all (λ l. g.O.Oracle.values c.args.oracle.now (variable_of l)) c.args.lits.now c.loop-place.place
    c.loop-place.row c.loop-place-test.false c.loop-place.invariant
