use Rattle.std.proofs.Common.{drop, arith}
use Rattle.aig_graph.proofs.LargerGraphs.{grown_twice}
use Rattle.candidate_functions.proofs.AllOutputs.{rule_nodes_are_nodes}
use Rattle.candidate_functions.proofs.RuleNodes.{with_rule}
use Rattle.candidate_functions.proofs.rules.put_rules.Goals as goal

pub put_rule-requires-clause-nodes : goal.put_rule-requires-clause-nodes
put_rule-requires-clause-nodes c = search (arith, rule_nodes_are_nodes)

pub loop-at-preserved : goal.loop-at-preserved
loop-at-preserved c = record {
  grown = grown_twice c.args.graph.now c.loop-at.graph c.put_rule.new.graph c.loop-at.invariant.grown
      c.put_rule.ensures.extends;
  within = omega arith;
  nodes =
      with_rule c.args.f.now c.put_rule.new.graph c.args.rules.now c.loop-at.at c.index-rules-at.result
      c.put_rule.new.nodes.items (omega arith) c.loop-at.invariant.within c.index-rules-at.is
      (c.in_ok-put_rule.ensures.nodes (drop c.loop-at.at c.args.rules.now) c.loop-at.invariant.nodes);
}

pub returns-in_err-put_rule-clause-extends : goal.returns-in_err-put_rule-clause-extends
returns-in_err-put_rule-clause-extends c = search (arith, grown_twice)

pub returns-clause-nodes : goal.returns-clause-nodes
returns-clause-nodes c = search arith
