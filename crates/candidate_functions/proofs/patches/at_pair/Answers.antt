use Rattle.std.proofs.Common.{false, arith}
use Rattle.expansion.specs.Table.{point_bits}
use Rattle.aig_graph.specs.declared.nodes.Node.TheVariants.{Constant}
use Rattle.aig_graph.proofs.LargerGraphs.{grown_twice}
use Rattle.candidate_functions.specs.Pairs.{has_bit}
use Rattle.candidate_functions.specs.declared.cubes.Pair.{Pair}
use Rattle.candidate_functions.proofs.PatchedNodes.{one_pair_more}
use Rattle.candidate_functions.proofs.patches.at_pair.Goals as goal

pub loop-pair-preserved : goal.loop-pair-preserved
loop-pair-preserved c =
    let none : Pair = record { round = 0; cube = Constant false } in
    one_pair_more c.args.graph.now c.loop-pair.graph c.with_cube.new.graph
    (has_bit c.args.bit (point_bits c.args.points.now) c.args.y) c.args.pairs.now c.loop-pair.pair-index none
    c.loop-pair.made c.in_ok-made.made c.has_bit-is_one.result c.loop-pair-test.true
    (c.requires.cubes c.loop-pair.pair-index none c.loop-pair-test.true) c.has_bit-is_one.ensures
    c.loop-pair.invariant c.in_ok-made.ensures.extends c.in_ok-made.ensures.with

pub returns-in_err-made-clause-extends : goal.returns-in_err-made-clause-extends
returns-in_err-made-clause-extends c = search (arith, grown_twice)
