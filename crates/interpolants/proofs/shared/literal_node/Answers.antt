use Rattle.std.proofs.Common.{sym, ◌∙◌}
use Rattle.aig_graph.specs.Graph.{node_value}
use Rattle.interpolants.proofs.ResolvedHints.{negated_value}
use Rattle.interpolants.proofs.shared.literal_node.Goals as goal

pub returns-then-is_neg-clause-value : goal.returns-then-is_neg-clause-value
returns-then-is_neg-clause-value c = λ graph inputs m h.
    negated_value m c.args.l (node_value graph inputs c.args.n) (node_value graph inputs c.not.result)
    (sym c.is_neg.ensures ∙ c.if-is_neg.true) h (c.not.ensures.value graph inputs)
