use Rattle.std.proofs.Common.{ap, arith}
use Rattle.aig_graph.specs.Putting.{gate_of}
use Rattle.aig_graph.proofs.MadeGates.{found_made, none_found}
use Rattle.aig_graph.proofs.PutInNodes.{input_put, gate_side_put}
use Rattle.aig_graph.proofs.graphs.Graph.side_put_in.Goals as goal

pub unreachable-requires : goal.unreachable-requires
unreachable-requires c = none_found c.args.self.now c.args.subs.now c.args.made.now c.in-Gate.g
    (c.requires.ready c.in-Gate.g (ap gate_of c.in-Gate.is)) c.in-None.ensures.value

pub returns-in-Input : goal.returns-in-Input
returns-in-Input c = search (arith, input_put)

pub returns-in-Some : goal.returns-in-Some
returns-in-Some c =
    gate_side_put c.args.self.now c.args.subs.now c.in-Gate.g c.in-Gate.negated c.args.side c.in-Some.n.now
    c.signed-in-Some.result c.in-Gate.is
    (found_made c.args.self.now c.args.subs.now c.args.made.now c.in-Gate.g c.in-Some.n.now
    (c.requires.ready c.in-Gate.g (ap gate_of c.in-Gate.is)) c.in-Some.ensures.value)
    c.signed-in-Some.ensures.node c.signed-in-Some.ensures.value c.signed-in-Some.ensures.support
