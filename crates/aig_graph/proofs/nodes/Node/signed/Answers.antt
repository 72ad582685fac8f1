use Rattle.std.proofs.Common.{◌∙◌, ap, sym}
use Rattle.aig_graph.specs.Graph.{node_value, with_sign}
use Rattle.aig_graph.proofs.nodes.Node.signed.Goals as goal

pub returns-then-negated-clause-value : goal.returns-then-negated-clause-value
returns-then-negated-clause-value c = λ graph inputs. c.not.ensures.value graph inputs ∙ sym
    (ap (λ b. with_sign b (node_value graph inputs c.args.self)) c.if-negated.true)
