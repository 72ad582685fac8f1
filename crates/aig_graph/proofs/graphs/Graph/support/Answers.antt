use Rattle.std.proofs.Common.{◌≡◌, ◌+◌, ◌-◌, subst, arith}
use Rattle.aig_graph.proofs.NodeReads.{AreMarks, first_marks, marks_go_on}
use Rattle.aig_graph.proofs.graphs.Graph.support.Goals as goal

pub loop-at-init : goal.loop-at-init
loop-at-init c = search (arith, first_marks)

pub loop-at-preserved : goal.loop-at-preserved
loop-at-preserved c =
    let at : c.loop-at.at ≡ c.loop-at.at - 1 + 1 = let test = c.loop-at-test.true in omega (arith, test) in
    marks_go_on c.args.self.now c.args.n c.args.marks.now c.loop-at.marks c.mark_sides.new.marks (c.loop-at.at - 1)
    (subst (AreMarks c.args.self.now c.args.n c.args.marks.now c.loop-at.marks) at c.loop-at.invariant)
    c.mark_sides.ensures.reached c.mark_sides.ensures.same_length
