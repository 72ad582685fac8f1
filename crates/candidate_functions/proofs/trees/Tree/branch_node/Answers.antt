use Rattle.std.proofs.Common.{◌≡◌, ℕ, false, get_or, sym, subst, arith}
use Rattle.std.proofs.lemmas.Result.{IfOk-weaker}
use Rattle.aig_graph.specs.Made.{IsChosen}
use Rattle.aig_graph.specs.declared.nodes.Node.{Node}
use Rattle.aig_graph.specs.declared.nodes.Node.TheVariants.{Constant}
use Rattle.candidate_functions.specs.Pairs.{universal_places}
use Rattle.candidate_functions.specs.Trees.{IsOver}
use Rattle.candidate_functions.proofs.TreeNodes.{at_over, chosen_over, place_among, place_within}
use Rattle.candidate_functions.proofs.trees.Tree.branch_node.Goals as goal

pub input-input-requires : goal.input-input-requires
input-input-requires c =
    search (arith, (place_within c.args.f.now c.args.seen.now c.in-Some.x.now c.place_of.result c.requires.seen))

pub mux-requires-clause-c : goal.mux-requires-clause-c
mux-requires-clause-c c =
    search (arith, (place_within c.args.f.now c.args.seen.now c.in-Some.x.now c.place_of.result c.requires.seen))

pub returns-in-Some-clause-node : goal.returns-in-Some-clause-node
returns-in-Some-clause-node c =
    let places = universal_places c.args.f.now c.args.seen.now in
    let nodes = c.args.nodes.now in
    let old = c.args.graph.now in
    let found = c.in-Some.ensures.lookup in
    let among = place_among c.args.f.now c.args.seen.now c.in-Some.x.now c.place_of.result
    (c.in-Some-Test.tested, found.3.0, sym found.1) c.place_of.ensures.place in
    let at : (k : ℕ) (n : Node) → n ≡ get_or nodes k (Constant false) → IsOver old places n =
    λ k n is. subst (IsOver old places) (sym is) (at_over old places nodes c.requires.nodes k) in
    IfOk-weaker c.mux.result (IsChosen old c.mux.new.self c.input-input.result c.node_at.result
    c.node_at-in-Some.result) (IsOver c.mux.new.self places)
    (λ n made. chosen_over old c.mux.new.self places c.place_of.result c.node_at.result c.node_at-in-Some.result n among
    (at c.in-Some-Test.yes c.node_at.result c.node_at.ensures)
    (at c.in-Some-Test.no c.node_at-in-Some.result c.node_at-in-Some.ensures)
    (subst (λ (g : Node). IsChosen old c.mux.new.self g c.node_at.result c.node_at-in-Some.result n)
    c.input-input.ensures made)) c.mux.ensures.made
