use Rattle.std.proofs.Common.{Some, arith}
use Rattle.aig_graph.proofs.Sides.{by_left, by_right, answered}
use Rattle.aig_graph.proofs.graphs.Graph.by_sides_of.Goals as goal

pub returns-in-Some : goal.returns-in-Some
returns-in-Some c =
    answered (Some c.in-Some.n) c.args.self.now c.args.a c.in-Gate.g c.in-Gate.negated c.args.b c.beside.result
    c.in-Gate.is c.in-Some.ensures
    (by_left c.args.self.now c.in-Gate.g c.in-Gate.negated c.sides-sides.result c.args.b c.every_graph_is_lawful.ensures
    c.sides-sides.ensures.at c.requires.b c.beside.result c.beside.ensures)

pub returns-in-None : goal.returns-in-None
returns-in-None c = search (arith, by_right)
