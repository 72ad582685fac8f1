use Rattle.std.proofs.Common.{◌∙◌, false, get_or, ap}
use Rattle.std.proofs.lemmas.List.{get_or_default}
use Rattle.aig_graph.specs.declared.nodes.Node.TheVariants.{Constant}
use Rattle.interpolants.specs.Interpolant.{node_of}
use Rattle.interpolants.proofs.NodeMaps.{listed_before, listed_now}
use Rattle.interpolants.proofs.node_maps.map_of.Goals as goal
use Rattle.interpolants.proofs.node_maps.map_of.Goals.{then-is_none+in_ok-put, else-is_none}

pub loop-pair-preserved : goal.loop-pair-preserved
loop-pair-preserved c = λ n.
    let pairs = c.args.pairs.now in
    let i = c.loop-pair.pair-index in
    let p = get_or pairs i (0, Constant false) in
    let at = get_or_default pairs i p (0, Constant false) c.loop-pair-test.true in
    elim c.if-is_none.branch [
      | then-is_none+in_ok-put w ↦
          ap (λ m. node_of m n) w.map-is
          ∙ listed_now pairs i p c.loop-pair-test.true at c.loop-pair.map w.put.new.self c.loop-pair.invariant
          c.get.result c.get.ensures w.if-is_none.ensures w.in_ok-put.ensures n
      | else-is_none w ↦
          ap (λ m. node_of m n) w.map-is ∙ listed_before pairs i p c.loop-pair-test.true at c.loop-pair.map
          c.loop-pair.map c.loop-pair.invariant c.get.result c.get.ensures w.if-is_none.ensures n
    ]
