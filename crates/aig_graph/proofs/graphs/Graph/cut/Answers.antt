use Rattle.std.proofs.Common.{ap, reverse, sym, ◌∙◌, subst}
use Rattle.aig_graph.specs.Graph.{AreGates}
use Rattle.aig_graph.specs.Made.{cut_to}
use Rattle.aig_graph.proofs.Numbered.{first_gates, first_gates_lawful}
use Rattle.aig_graph.proofs.graphs.Graph.cut.Goals as goal

pub invariant_of-self : goal.invariant_of-self
invariant_of-self c = record {
  few_inputs = c.self.invariant.few_inputs;
  gates = subst (λ xs. AreGates c.self.inside.inputs (reverse xs)) (sym c.truncate.ensures.items)
      (first_gates_lawful c.self.inside.inputs c.self.inside.gates.items c.args.count c.self.invariant.gates);
}

pub returns : goal.returns
returns c =
    ap (λ xs. record { inputs = c.self.inside.inputs; gates = reverse xs }) c.truncate.ensures.items
    ∙ ap (λ xs. record { inputs = c.self.inside.inputs; gates = xs })
    (first_gates c.self.inside.gates.items c.args.count)
    ∙ ap (cut_to c.args.count) c.self.view_is
