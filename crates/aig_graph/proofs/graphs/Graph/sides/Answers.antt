use Rattle.std.proofs.Common.{subst, arith}
use Rattle.aig_graph.specs.Graph.{IsGraph}
use Rattle.aig_graph.proofs.Numbered.{gate_at_kept, sides_are}
use Rattle.aig_graph.proofs.graphs.Graph.sides.Goals as goal

pub returns-clause-at : goal.returns-clause-at
returns-clause-at c = search (arith, gate_at_kept)

pub returns-clause-are_sides : goal.returns-clause-are_sides
returns-clause-are_sides c =
    let lawful : IsGraph c.args.self.now = subst IsGraph c.self.view_is c.self.invariant in
    sides_are c.args.self.now.inputs c.args.self.now.gates c.args.g c.index.result.now lawful.gates
    (returns-clause-at c)
