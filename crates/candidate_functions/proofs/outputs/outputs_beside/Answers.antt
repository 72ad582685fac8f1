use Rattle.std.proofs.Common.{◌≡◌, ◌+◌, false, get_or, length, refl, sym, subst, arith}
use Rattle.aig_graph.specs.declared.nodes.Node.TheVariants.{Constant}
use Rattle.aig_graph.proofs.LargerGraphs.{grown_twice}
use Rattle.expansion.specs.Table.{point_bits}
use Rattle.candidate_functions.specs.Pairs.{AreFirstOutputs}
use Rattle.candidate_functions.proofs.AllOutputs.{OutputsSoFar, output_added}
use Rattle.candidate_functions.proofs.KnownPoints.{values_stay}
use Rattle.candidate_functions.proofs.outputs.outputs_beside.Goals as goal

pub returns-in_err-node-clause-extends : goal.returns-in_err-node-clause-extends
returns-in_err-node-clause-extends c = search (arith, grown_twice)

pub returns-in_err-push-clause-extends : goal.returns-in_err-push-clause-extends
returns-in_err-push-clause-extends c = search (arith, grown_twice)

pub loop-place-preserved : goal.loop-place-preserved
loop-place-preserved c =
    let f = c.args.known.now.f.now in
    let rows = c.args.known.now.table.now.rows in
    let points = point_bits c.args.known.now.points.now in
    let place = c.loop-place.place in
    subst (λ ns. OutputsSoFar f rows points c.args.known.now.definitions.now c.args.others.now.nodes.now
    c.args.graph.now c.first_output.new.graph c.first_output.new.self.classes.items ns (place + 1))
    (sym c.in_ok-push.ensures.items)
    (output_added f rows points c.args.known.now.definitions.now c.args.others.now.nodes.now c.args.graph.now
    c.loop-place.graph c.first_output.new.graph c.loop-place.classes.classes.items
    c.first_output.new.self.classes.items c.loop-place.nodes.items place
    (get_or c.args.others.now.nodes.now place (Constant false)) c.in_ok-node.node c.loop-place.invariant
    c.in_ok-node.ensures.extends
    c.in_ok-node.ensures.classes refl c.in_ok-node.ensures.output)

pub returns-clause-outputs : goal.returns-clause-outputs
returns-clause-outputs c = λ rules by.
    let all : c.loop-place.place ≡ length c.args.known.now.f.now.existentials = omega arith in
    subst (λ n. AreFirstOutputs c.args.known.now.f.now c.args.known.now.table.now.rows
    (point_bits c.args.known.now.points.now) rules c.args.known.now.definitions.now c.loop-place.graph n
    c.loop-place.nodes.items) all
    (c.loop-place.invariant.outputs rules by)

pub first_output-requires-clause-values : goal.first_output-requires-clause-values
first_output-requires-clause-values c = search (arith, values_stay)
