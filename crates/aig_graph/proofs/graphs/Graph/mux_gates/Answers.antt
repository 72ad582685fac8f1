use Rattle.std.proofs.Common.{arith}
use Rattle.aig_graph.proofs.MadeNodes.{IsNegation, if_chosen}
use Rattle.aig_graph.proofs.LargerGraphs.{more_more}
use Rattle.aig_graph.proofs.graphs.Graph.mux_gates.Goals as goal

pub and-requires-2-clause-a : goal.and-requires-2-clause-a
and-requires-2-clause-a c = c.not.ensures.node c.and.new.self (c.in_ok-left.ensures.extends.nodes c.args.c c.requires.c)

pub returns-clause-grown : goal.returns-clause-grown
returns-clause-grown c = search (arith, more_more)

pub returns-clause-made : goal.returns-clause-made
returns-clause-made c =
    let nc : IsNegation c.args.c c.not.result = record {
      node = c.not.ensures.node;
      value = c.not.ensures.value;
      support = c.not.ensures.support;
    } in
    if_chosen c.or.result c.args.self.now c.and.new.self c.and-2.new.self c.or.new.self c.args.c c.args.t c.args.e
    c.not.result c.in_ok-left.left c.in_ok-right.right
    c.in_ok-left.ensures.extends c.in_ok-right.ensures.extends c.or.ensures.extends c.requires.c c.requires.t
    c.requires.e nc c.in_ok-left.ensures.made c.in_ok-right.ensures.made c.or.ensures.made
