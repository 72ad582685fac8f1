use Rattle.std.proofs.Common.{◌≡◌, ℕ, List, ◌+◌, ◌-◌, ◌<◌, ◌≤◌, length, get_or, slice_get, Some, sym, ◌∙◌, ap, subst, arith}
use Rattle.std.proofs.lemmas.Option.{slice_get-get_or}
use Rattle.aig_graph.proofs.MadeGates.{ArePutInFrom, sides_ready, put_in_more, node_ready}
use Rattle.aig_graph.proofs.PutInNodes.{put_from}
use Rattle.aig_graph.proofs.LargerGraphs.{extends, more_more}
use Rattle.aig_graph.proofs.graphs.Graph.cone_put_in.Goals as goal

there : (gates : List ℕ) (at g : ℕ) → 0 < at → at ≤ length gates → g ≡ get_or gates (at - 1) g →
    slice_get gates (at - 1) ≡ Some g
there gates at g some within is = slice_get-get_or gates (at - 1) g (omega arith) ∙ ap Some (sym is)

pub gate_put_in-requires-clause-ready : goal.gate_put_in-requires-clause-ready
gate_put_in-requires-clause-ready c =
    let gates = c.in_ok-gates.gates.items in
    let at = c.loop-at.at in
    let behind : at ≡ at - 1 + 1 = let test = c.loop-at-test.true in omega (arith, test) in
    sides_ready c.args.self.now c.loop-at.self c.args.node c.args.subs.now gates c.loop-at.made
    (at - 1) c.index-g.result.now c.every_graph_is_lawful.ensures c.in_ok-gates.ensures
    (subst (ArePutInFrom c.args.self.now c.loop-at.self c.args.subs.now gates c.loop-at.made) behind
    c.loop-at.invariant)
    (there gates at c.index-g.result.now c.loop-at-test.true c.loop-at.invariant.within c.index-g.ensures)

pub returns-in_err-n-clause-grown : goal.returns-in_err-n-clause-grown
returns-in_err-n-clause-grown c = search (arith, more_more)

pub loop-at-preserved : goal.loop-at-preserved
loop-at-preserved c =
    let gates = c.in_ok-gates.gates.items in
    let at = c.loop-at.at in
    let behind : at ≡ at - 1 + 1 = let test = c.loop-at-test.true in omega (arith, test) in
    put_in_more c.args.self.now c.loop-at.self c.args.node c.args.subs.now gates c.loop-at.made
    (at - 1) c.index-g.result.now c.every_graph_is_lawful.ensures c.in_ok-gates.ensures
    (subst (ArePutInFrom c.args.self.now c.loop-at.self c.args.subs.now gates c.loop-at.made) behind
    c.loop-at.invariant)
    (there gates at c.index-g.result.now c.loop-at-test.true c.loop-at.invariant.within c.index-g.ensures)
    c.gate_put_in.new.self c.in_ok-n.n c.insert.new.self c.requires.subs c.in_ok-n.ensures.grown
    c.in_ok-n.ensures.put_in c.in_ok-insert.ensures.updates

pub returns-in_err-insert-clause-grown : goal.returns-in_err-insert-clause-grown
returns-in_err-insert-clause-grown c = search (arith, more_more)

pub side_put_in-requires-clause-ready : goal.side_put_in-requires-clause-ready
side_put_in-requires-clause-ready c =
    let none : c.loop-at.at ≡ 0 = let test = c.loop-at-test.false in omega (arith, test) in
    node_ready c.args.self.now c.loop-at.self c.args.node c.args.subs.now c.in_ok-gates.gates.items c.loop-at.made
    c.in_ok-gates.ensures
    (subst (ArePutInFrom c.args.self.now c.loop-at.self c.args.subs.now c.in_ok-gates.gates.items c.loop-at.made) none
    c.loop-at.invariant)

pub returns-clause-made : goal.returns-clause-made
returns-clause-made c =
    put_from c.args.self.now c.loop-at.self (extends c.args.self.now c.loop-at.self c.loop-at.invariant.grown)
    c.args.subs.now c.requires.subs c.args.node c.side_put_in.result c.requires.node c.side_put_in.ensures
