use Rattle.std.proofs.Common.{arith}
use Rattle.aig_graph.proofs.MadeNodes.{IsNegation, if_xor}
use Rattle.aig_graph.proofs.LargerGraphs.{more_more}
use Rattle.aig_graph.proofs.graphs.Graph.xor_gates.Goals as goal

pub and-requires-clause-b : goal.and-requires-clause-b
and-requires-clause-b c = c.not.ensures.node c.args.self.now c.requires.b

pub and-requires-2-clause-a : goal.and-requires-2-clause-a
and-requires-2-clause-a c = c.not-2.ensures.node c.and.new.self
    (c.in_ok-left.ensures.extends.nodes c.args.a c.requires.a)

pub returns-clause-grown : goal.returns-clause-grown
returns-clause-grown c = search (arith, more_more)

pub returns-clause-made : goal.returns-clause-made
returns-clause-made c =
    let nb : IsNegation c.args.b c.not.result = record {
      node = c.not.ensures.node;
      value = c.not.ensures.value;
      support = c.not.ensures.support;
    } in
    let na : IsNegation c.args.a c.not-2.result = record {
      node = c.not-2.ensures.node;
      value = c.not-2.ensures.value;
      support = c.not-2.ensures.support;
    } in
    if_xor c.or.result c.args.self.now c.and.new.self c.and-2.new.self c.or.new.self c.args.a c.args.b c.not-2.result
    c.not.result c.in_ok-left.left c.in_ok-right.right
    c.in_ok-left.ensures.extends c.in_ok-right.ensures.extends c.or.ensures.extends c.requires.a c.requires.b na nb
    c.in_ok-left.ensures.made c.in_ok-right.ensures.made c.or.ensures.made
