use Rattle.std.proofs.Common.{◌-◌, ◌<◌, Some, length, refl, sym, ◌∙◌, ap, arith}
use Rattle.std.proofs.lemmas.Option.{slice_get-get_or}
use Rattle.std.specs.Vec.{with_item}
use Rattle.row_pairs.specs.Pairs.{HasPlaces}
use Rattle.candidate_functions.proofs.PatchedPairs.{cube_put, own_cube}
use Rattle.row_pairs.proofs.PairRounds.{row_has}
use Rattle.candidate_functions.proofs.classes.Class.cube.Goals as goal

pub returns-in-Some-clause-cube : goal.returns-in-Some-clause-cube
returns-in-Some-clause-cube c = λ row at.
    let cubes = c.args.self.now.cubes.items in
    let long = c.requires.class.one_each in
    let below = c.requires.at in
    let within : c.args.at < length cubes = omega arith in
    c.requires.class.cubes c.args.at c.in-Some.cube row (slice_get-get_or cubes c.args.at c.index.result.now within
    ∙ ap Some (sym c.index.ensures ∙ c.in-Some.is)) at

pub row_cube-requires-clause-row : goal.row_cube-requires-clause-row
row_cube-requires-clause-row c = row_has c.args.table.now.rows (HasPlaces c.args.places.now)
    (c.index-2.result.now - 1) c.row.result.now c.requires.whole c.row.ensures

pub returns-clause-class : goal.returns-clause-class
returns-clause-class c =
    let rows = c.args.table.now.rows in
    let old = c.args.self.now in
    cube_put rows c.args.graph.now c.row_cube.new.graph c.args.places.now old
    (record { y = old.y; rounds = old.rounds; cubes = with_item old.cubes c.args.at (Some c.in_ok-cube.cube) })
    c.args.at c.in_ok-cube.cube
    c.in_ok-cube.ensures.extends c.requires.at c.requires.class refl refl
    (λ row at. own_cube rows c.row_cube.new.graph c.args.places.now old.rounds.items c.args.at c.index-2.result.now
    c.row.result.now row c.in_ok-cube.cube c.requires.at c.index-2.ensures c.row.ensures at
    c.in_ok-cube.ensures.cube)

pub returns-clause-cube : goal.returns-clause-cube
returns-clause-cube c = λ row at.
    own_cube c.args.table.now.rows c.row_cube.new.graph c.args.places.now c.args.self.now.rounds.items c.args.at
    c.index-2.result.now c.row.result.now row c.in_ok-cube.cube c.requires.at c.index-2.ensures c.row.ensures at
    c.in_ok-cube.ensures.cube
