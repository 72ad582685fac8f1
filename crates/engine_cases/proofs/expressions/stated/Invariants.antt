use Rattle.std.proofs.Common.{◌≡◌, All, length}
use Rattle.aig_graph.specs.Graph.{IsNode}
use Rattle.engine_cases.proofs.expressions.stated.Given as goal

abbrev pub invariant-loop-word : goal.invariant-loop-word
invariant-loop-word l = (l.graph.inputs ≡ length l.f.universals) × All (IsNode l.graph) l.stack.items
