use Rattle.std.proofs.Common.{◌≡◌, ◌+◌, ◌-◌, sym, ◌∙◌, subst, arith}
use Rattle.aig_graph.proofs.ConeMarks.{AreCones, roots_marked, cones_go_on, cones_marked}
use Rattle.aig_graph.proofs.graphs.Graph.cones.Goals as goal

pub loop-at-init : goal.loop-at-init
loop-at-init c =
    subst (AreCones c.args.self.now c.args.nodes.now c.args.marks.now c.mark_all.new.marks) (sym c.gates-at.ensures)
    (roots_marked c.args.self.now c.args.nodes.now c.args.marks.now c.mark_all.new.marks c.mark_all.ensures.marked
    (c.mark_all.ensures.same_length ∙ c.clear.ensures.same_length))

pub loop-at-preserved : goal.loop-at-preserved
loop-at-preserved c =
    let at : c.loop-at.at ≡ c.loop-at.at - 1 + 1 = let test = c.loop-at-test.true in omega (arith, test) in
    cones_go_on c.args.self.now c.args.nodes.now c.args.marks.now c.loop-at.marks c.mark_sides.new.marks
    (c.loop-at.at - 1) c.every_graph_is_lawful.ensures
    (subst (AreCones c.args.self.now c.args.nodes.now c.args.marks.now c.loop-at.marks) at c.loop-at.invariant)
    c.mark_sides.ensures.hands_on c.mark_sides.ensures.same_length

pub returns-clause-marked : goal.returns-clause-marked
returns-clause-marked c = search (arith, cones_marked)
