use Rattle.std.proofs.Common.{◌≤◌, drop, length}
use Rattle.aig_graph.specs.Made.{Extends}
use Rattle.candidate_functions.specs.Pairs.{AreByRules}
use Rattle.candidate_functions.proofs.rules.put_rules.Given as goal

abbrev pub invariant-loop-at : goal.invariant-loop-at
invariant-loop-at l = record {
  grown : Extends l.fn.graph l.graph;
  within : l.at ≤ length l.rules;
  nodes : AreByRules l.f l.graph (drop l.at l.rules) l.nodes.items;
}

abbrev pub decreases-loop-at : goal.decreases-loop-at
decreases-loop-at l = l.at
