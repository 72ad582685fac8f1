use Rattle.candidate_functions.proofs.TreeNodes.{NodesSoFar}
use Rattle.candidate_functions.proofs.guesses.Trees.nodes.Given as goal

abbrev pub invariant-loop-place : goal.invariant-loop-place
invariant-loop-place l = NodesSoFar l.known.f.now l.fn.graph l.graph l.place l.nodes.items
