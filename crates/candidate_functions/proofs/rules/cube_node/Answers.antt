use Rattle.std.proofs.Common.{sym, ◌∙◌, subst, All}
use Rattle.std.proofs.lemmas.Result.{IfOk-weaker}
use Rattle.aig_graph.specs.Graph.{IsNode}
use Rattle.aig_graph.specs.Made.{IsCube}
use Rattle.candidate_functions.specs.Pairs.{IsCubeNode}
use Rattle.candidate_functions.proofs.RuleNodes.{input_literals_are_nodes, cube_node_made}
use Rattle.candidate_functions.proofs.rules.cube_node.Goals as goal

pub cube-requires : goal.cube-requires
cube-requires c =
    let g = c.args.graph.now in
    subst (All (IsNode g)) (sym (c.deref.ensures.value ∙ c.in_ok-literals.ensures))
    (input_literals_are_nodes c.args.f.now g c.args.cube.now c.requires.inputs c.requires.universals)

pub returns-clause-node : goal.returns-clause-node
returns-clause-node c =
    let old = c.args.graph.now in
    let new = c.cube.new.self in
    let f = c.args.f.now in
    IfOk-weaker c.cube.result (IsCube old new c.deref.result.now) (IsCubeNode f new c.args.cube.now)
    (λ n made. cube_node_made f old new c.args.cube.now n c.requires.universals
    (subst (λ ls. IsCube old new ls n) (c.deref.ensures.value ∙ c.in_ok-literals.ensures) made)) c.cube.ensures.made
