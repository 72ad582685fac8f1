use Rattle.std.proofs.lemmas.Result.{IfOk-weaker}
use Rattle.std.proofs.Common.{◌&&◌, false, arith}
use Rattle.aig_graph.specs.Made.{IsMade}
use Rattle.aig_graph.proofs.LargerGraphs.{grown_twice}
use Rattle.expansion.specs.Table.{point_bits}
use Rattle.candidate_functions.specs.Pairs.{has_bit, IsMasked}
use Rattle.candidate_functions.proofs.PatchedNodes.{masked_by}
use Rattle.candidate_functions.proofs.patches.masked.Goals as goal

pub and-requires-clause-b : goal.and-requires-clause-b
and-requires-clause-b c = c.not.ensures.node c.at_pair.new.graph c.in_ok-zeros.ensures.at_pair.is_node

pub returns-clause-extends : goal.returns-clause-extends
returns-clause-extends c = search (arith, grown_twice)

pub returns-clause-masked : goal.returns-clause-masked
returns-clause-masked c =
    let old = c.args.graph.now in
    let mid = c.at_pair.new.graph in
    let new = c.and.new.self in
    let bits = has_bit false (point_bits c.args.points.now) c.args.y in
    IfOk-weaker c.and.result (IsMade (λ x y. x && y) mid new c.args.other c.not.result)
    (IsMasked old new bits c.args.pairs.now c.args.other)
    (λ n made. masked_by old mid new bits c.args.pairs.now c.args.other c.in_ok-zeros.zeros c.not.result n
    c.in_ok-zeros.ensures.extends c.requires.other c.in_ok-zeros.ensures.at_pair
    (c.not.ensures.value mid) (c.not.ensures.support mid) made) c.and.ensures.made
