use Rattle.aig_graph.proofs.BufferedValues.{written_on}
use Rattle.aig_graph.proofs.graphs.Graph.values_by_words.Goals as goal

pub loop-place-preserved : goal.loop-place-preserved
loop-place-preserved c =
    written_on c.args.self.now c.args.nodes.now c.args.inputs.now c.write_words.new.buf c.args.out.now c.loop-place.out
    c.loop-place.place c.word.result c.requires.nodes c.requires.a_word_a_node c.write_words.ensures.values
    c.loop-place-test.true c.loop-place.invariant c.word.ensures
