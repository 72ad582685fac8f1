use Rattle.std.proofs.Common.{◌<◌, length, sym, subst}
use Rattle.aig_graph.proofs.GatheredCones.{AreConeSoFar, lowest, cone_goes_on, goes_down, cone_gathered}
use Rattle.aig_graph.proofs.graphs.Graph.cone_gates.Goals as goal

pub loop-g-smaller : goal.loop-g-smaller
loop-g-smaller c =
    let graph = c.args.self.now in
    subst (λ gs. lowest gs (length graph.gates) < lowest c.loop-g.gates.items (length graph.gates))
    (sym c.in_ok-push.ensures.items)
    (goes_down graph c.args.n c.loop-g.pending c.take_last.new.gates c.add_gate-in-Some.new.gates
    c.add_gate-in-Some-2.new.gates c.loop-g.gates.items c.in-Some.g c.sides-sides.result c.loop-g.invariant
    c.in-Some.ensures.last c.sides-sides.ensures.at c.sides-sides.ensures.are_sides c.in_ok-add_gate-2.ensures
    c.in_ok-add_gate-3.ensures)

pub loop-g-preserved : goal.loop-g-preserved
loop-g-preserved c =
    let graph = c.args.self.now in
    subst (AreConeSoFar graph c.args.n c.add_gate-in-Some-2.new.gates) (sym c.in_ok-push.ensures.items)
    (cone_goes_on graph c.args.n c.loop-g.pending c.take_last.new.gates c.add_gate-in-Some.new.gates
    c.add_gate-in-Some-2.new.gates c.loop-g.gates.items c.in-Some.g c.sides-sides.result c.loop-g.invariant
    c.in-Some.ensures.last c.sides-sides.ensures.at c.sides-sides.ensures.are_sides c.in_ok-add_gate-2.ensures
    c.in_ok-add_gate-3.ensures)

pub returns : goal.returns
returns c = cone_gathered c.args.self.now c.args.n c.loop-g.pending c.loop-g.gates.items c.loop-g.invariant
    c.in_default.ensures.none
