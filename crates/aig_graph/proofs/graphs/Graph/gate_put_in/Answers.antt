use Rattle.std.proofs.lemmas.Result.{IfOk-weaker}
use Rattle.std.proofs.Common.{◌&&◌, false}
use Rattle.aig_graph.specs.declared.nodes.Node.TheVariants.{Gate}
use Rattle.aig_graph.specs.Made.{IsMade}
use Rattle.aig_graph.specs.Substituting.{IsPutIn}
use Rattle.aig_graph.proofs.PutInNodes.{gate_put}
use Rattle.aig_graph.proofs.graphs.Graph.gate_put_in.Goals as goal

pub returns-clause-put_in : goal.returns-clause-put_in
returns-clause-put_in c =
    let old = c.args.self.now in
    let new = c.and.new.self in
    let subs = c.args.subs.now in
    IfOk-weaker c.and.result (IsMade (λ x y. x && y) old new c.side_put_in-left.result c.side_put_in-right.result)
    (IsPutIn new new (Gate c.args.g false) subs)
    (λ n made. gate_put old new c.and.ensures.extends subs c.requires.subs c.args.g c.sides-sides.result
    c.side_put_in-left.result c.side_put_in-right.result n c.every_graph_is_lawful.ensures c.sides-sides.ensures.at
    c.side_put_in-left.ensures c.side_put_in-right.ensures made) c.and.ensures.made
