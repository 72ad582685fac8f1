use Rattle.std.proofs.Common.{◌≡◌, Some, sym, ◌∙◌, ap}
use Rattle.dq_lits.specs.Literal.{variable_of}
use Rattle.interpolants.specs.Interpolant.{node_of}
use Rattle.interpolants.proofs.Steps.{IsLiteralNode, shared_more, shared_past}
use Rattle.interpolants.proofs.shared.or_shared.Goals as goal

pub or-requires-clause-b : goal.or-requires-clause-b
or-requires-clause-b c =
    c.literal_node.ensures.node c.args.graph.now
    (c.requires.nodes (variable_of c.args.l) c.in-Some.n (ap (node_of c.args.shared.now) (sym c.var.ensures.value)
    ∙ sym c.get.ensures ∙ c.in-Some.is))

pub returns-in_ok-made-in-Some-clause-more : goal.returns-in_ok-made-in-Some-clause-more
returns-in_ok-made-in-Some-clause-more c = λ clause part.
    let found : node_of c.args.shared.now (variable_of c.args.l) ≡ Some c.in-Some.n =
    ap (node_of c.args.shared.now) (sym c.var.ensures.value) ∙ sym c.get.ensures ∙ c.in-Some.is in
    let is : IsLiteralNode c.args.shared.now c.args.graph.now c.args.l c.in-Some.n c.literal_node.result =
    record {
      node_is = found;
      value = c.literal_node.ensures.value c.args.graph.now;
      support =
          c.literal_node.ensures.support c.args.graph.now;
    } in
    shared_more c.args.shared.now c.args.graph.now c.or.new.self clause c.args.l c.args.node c.in-Some.n
    c.literal_node.result c.in_ok-made-in-Some.made
    c.or.ensures.extends c.requires.nodes is c.in_ok-made-in-Some.ensures.made part

pub returns-in-None-clause-more : goal.returns-in-None-clause-more
returns-in-None-clause-more c = λ clause part.
    shared_past c.args.shared.now c.args.graph.now clause c.args.l c.args.node
    (ap (node_of c.args.shared.now) (sym c.var.ensures.value) ∙ sym c.get.ensures ∙ c.in-None.is) part
