use Rattle.std.proofs.Common.{◌==◌, cond, Some, ◌∙◌, ap}
use Rattle.interpolants.specs.Interpolant.{node_of}
use Rattle.interpolants.proofs.node_maps.NodeMap.put.Goals as goal

pub returns : goal.returns
returns c = λ n.
    c.in_ok-insert.ensures.updates.0 n ∙ ap (λ pairs. cond (c.args.number == n) (Some c.args.node) (node_of pairs n))
    c.self.view_is
