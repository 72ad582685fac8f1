use Rattle.std.proofs.Common.{List, take}
use Rattle.aig_graph.specs.Graph.{AigGraph}
use Rattle.aig_graph.specs.Made.{HasMore, IsCube}
use Rattle.aig_graph.specs.declared.nodes.Node.{Node}
use Rattle.aig_graph.proofs.graphs.Graph.cube_gates.Given as goal

pub record CubeSoFar (old mid : AigGraph) (nodes : List Node) (made : Node) : Type 0 where
  pub grown : HasMore old mid
  pub cube : IsCube old mid nodes made

abbrev pub invariant-loop-n : goal.invariant-loop-n
invariant-loop-n l = CubeSoFar l.fn.self l.self (take l.n-index l.nodes) l.made
