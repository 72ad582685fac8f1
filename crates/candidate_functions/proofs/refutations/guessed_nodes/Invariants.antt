use Rattle.std.specs.List.{All}
use Rattle.aig_graph.specs.Graph.{IsNode}
use Rattle.candidate_functions.proofs.refutations.guessed_nodes.Given as goal

abbrev pub invariant-loop-place : goal.invariant-loop-place
invariant-loop-place l = All (IsNode l.graph) l.nodes.items
