use Rattle.std.proofs.Common.{◌+◌, take, sym, subst}
use Rattle.expansion.specs.Table.{point_bits}
use Rattle.candidate_functions.specs.Differing.{HasKnownPoint, ArePatches}
use Rattle.candidate_functions.specs.declared.cubes.Pair.{Pair}
use Rattle.candidate_functions.proofs.PatchedPairs.{one_known, one_patched, round_pair}
use Rattle.candidate_functions.proofs.classes.Class.patch_at.Goals as goal

pub returns-in_ok-push-clause-pairs : goal.returns-in_ok-push-clause-pairs
returns-in_ok-push-clause-pairs c =
    let rows = c.args.known.now.table.now.rows in
    let values = c.args.own.now.values.now in
    let points = point_bits c.args.known.now.points.now in
    let places = c.args.places.now in
    let rounds = c.args.self.now.rounds.items in
    let round = c.index-round.result.now in
    let p : Pair = record { round = round; cube = c.in_ok-cube.cube } in
    subst (λ ps. ArePatches rows values points c.cube.new.graph places c.args.own.now.y c.args.own.now.place
    (take (c.args.at + 1) rounds) ps) (sym c.in_ok-push.ensures.items)
    (one_patched rows values points places c.args.own.now.y c.args.own.now.place rounds c.args.at round c.requires.at
    c.args.graph.now c.cube.new.graph c.args.pairs.now.items p
    c.in_ok-cube.ensures.extends c.requires.pairs c.index-round.ensures
    (round_pair rows c.cube.new.graph places rounds c.args.at round c.in_ok-cube.cube c.requires.at
    c.index-round.ensures c.requires.class.rounds.each c.in_ok-cube.ensures.cube))

pub returns-else-not-has_point-clause-pairs : goal.returns-else-not-has_point-clause-pairs
returns-else-not-has_point-clause-pairs c =
    let points = point_bits c.args.known.now.points.now in
    let round = c.index-round.result.now in
    one_known c.args.known.now.table.now.rows c.args.own.now.values.now points c.args.places.now c.args.own.now.y
    c.args.own.now.place c.args.self.now.rounds.items c.args.at round c.requires.at
    c.args.graph.now c.args.pairs.now.items c.requires.pairs
    (subst (HasKnownPoint c.args.own.now.values.now points c.args.own.now.y c.args.own.now.place) c.index-round.ensures
    (c.has_point.ensures c.if-not-has_point.false))
