use Rattle.aig_graph.proofs.MadeNodes.{IsNegation, or_made}
use Rattle.aig_graph.proofs.graphs.Graph.or.Goals as goal

pub and-requires-clause-a : goal.and-requires-clause-a
and-requires-clause-a c = c.not.ensures.node c.args.self.now c.requires.a

pub and-requires-clause-b : goal.and-requires-clause-b
and-requires-clause-b c = c.not-2.ensures.node c.args.self.now c.requires.b

pub returns-clause-made : goal.returns-clause-made
returns-clause-made c =
    let na : IsNegation c.args.a c.not.result = record {
      node = c.not.ensures.node;
      value = c.not.ensures.value;
      support = c.not.ensures.support;
    } in
    let nb : IsNegation c.args.b c.not-2.result = record {
      node = c.not-2.ensures.node;
      value = c.not-2.ensures.value;
      support = c.not-2.ensures.support;
    } in
    let nn : IsNegation c.in_ok-neither.neither c.not-3.result =
    record { node = c.not-3.ensures.node; value = c.not-3.ensures.value; support = c.not-3.ensures.support } in
    or_made c.args.self.now c.and.new.self c.args.a c.args.b c.not.result c.not-2.result c.in_ok-neither.neither
    c.not-3.result na nb nn c.in_ok-neither.ensures.made
