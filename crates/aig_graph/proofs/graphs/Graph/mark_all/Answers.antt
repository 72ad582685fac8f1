use Rattle.std.proofs.Common.{false}
use Rattle.aig_graph.specs.declared.nodes.Node.TheVariants.{Constant}
use Rattle.aig_graph.proofs.ConeMarks.{no_roots, root_more}
use Rattle.aig_graph.proofs.graphs.Graph.mark_all.Goals as goal

pub loop-n-init : goal.loop-n-init
loop-n-init c = no_roots c.args.self.now c.args.marks.now c.requires.none

pub loop-n-preserved : goal.loop-n-preserved
loop-n-preserved c =
    root_more c.args.self.now c.args.nodes.now c.args.marks.now c.loop-n.marks c.mark.new.marks c.loop-n.n-index
    (Constant false) c.loop-n-test.true c.loop-n.invariant c.mark.ensures.marked c.mark.ensures.same_length
