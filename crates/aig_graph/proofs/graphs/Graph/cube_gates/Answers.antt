use Rattle.std.proofs.Common.{take, get_or, sym, subst}
use Rattle.std.proofs.lemmas.List.{take_more}
use Rattle.aig_graph.specs.declared.nodes.Node.TheVariants.{Constant}
use Rattle.aig_graph.specs.Made.{IsCube}
use Rattle.std.proofs.Common.{false}
use Rattle.aig_graph.proofs.MadeNodes.{longer_cube}
use Rattle.aig_graph.proofs.LargerGraphs.{extends, more_more}
use Rattle.aig_graph.proofs.graphs.Graph.cube_gates.Goals as goal

pub loop-n-preserved : goal.loop-n-preserved
loop-n-preserved c =
    let at = c.loop-n.n-index in
    let n = get_or c.args.nodes.now at (Constant false) in
    let whole = longer_cube c.args.self.now c.loop-n.self c.and.new.self
    (take at c.args.nodes.now) c.loop-n.made n c.in_ok-made.made
    (extends c.args.self.now c.loop-n.self c.loop-n.invariant.grown)
    (c.requires at (Constant false) c.loop-n-test.true) c.loop-n.invariant.cube c.in_ok-made.ensures.made in
    record {
      grown = more_more c.args.self.now c.loop-n.self c.and.new.self c.loop-n.invariant.grown
          c.in_ok-made.ensures.grown;
      cube = subst (λ xs. IsCube c.args.self.now c.and.new.self xs c.in_ok-made.made)
          (sym (take_more c.args.nodes.now at (Constant false) c.loop-n-test.true)) whole;
    }
