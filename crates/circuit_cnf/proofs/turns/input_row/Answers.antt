use Rattle.std.proofs.Common.{◌∙◌, false, length, replicate, set, ap}
use Rattle.std.proofs.lemmas.List.{length-replicate}
use Rattle.dq_lits.specs.Literal.{positive, variable_of}
use Rattle.aig_graph.proofs.WrittenBits.{written_more}
use Rattle.circuit_cnf.proofs.turns.input_row.Goals as goal

pub loop-place-preserved : goal.loop-place-preserved
loop-place-preserved g c =
    let inputs = c.args.inputs.now in
    let values = g.O.Oracle.values c.args.oracle.now in
    let i = c.loop-place.place in
    let d = positive 0 in
    written_more (λ k. values (variable_of k)) inputs (replicate (length inputs) false) c.loop-place.row c.set.new.self
    i c.index-inputs-place.result c.loop-place-test.true
    (length-replicate (length inputs) false) c.loop-place.invariant
    (c.set.ensures ∙ ap (set c.loop-place.row i) (c.value.ensures ∙ ap values
    (c.var.ensures.value ∙ ap variable_of c.index-inputs-place.is)))
