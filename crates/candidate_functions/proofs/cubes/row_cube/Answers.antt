use Rattle.std.proofs.Common.{sym, ◌∙◌, subst, All}
use Rattle.std.proofs.lemmas.Result.{IfOk-weaker}
use Rattle.aig_graph.specs.Graph.{IsNode}
use Rattle.aig_graph.specs.Made.{IsCube}
use Rattle.candidate_functions.specs.Pairs.{IsRowCube}
use Rattle.candidate_functions.proofs.RowCubes.{literals_are_nodes, row_cube_made}
use Rattle.candidate_functions.proofs.cubes.row_cube.Goals as goal

pub cube-requires : goal.cube-requires
cube-requires c =
    let g = c.args.graph.now in
    subst (All (IsNode g)) (sym (c.deref.ensures.value ∙ c.in_ok-literals.ensures))
    (literals_are_nodes g c.args.row.now c.args.places.now c.requires.places)

pub returns-clause-cube : goal.returns-clause-cube
returns-clause-cube c =
    let old = c.args.graph.now in
    let new = c.cube.new.self in
    IfOk-weaker c.cube.result (IsCube old new c.deref.result.now) (IsRowCube new c.args.places.now c.args.row.now)
    (λ n made. row_cube_made old new c.args.places.now c.args.row.now n
    (subst (λ ls. IsCube old new ls n) (c.deref.ensures.value ∙ c.in_ok-literals.ensures) made)) c.cube.ensures.made
