use Rattle.std.proofs.lemmas.Result.{IfOk-weaker}
use Rattle.std.proofs.Common.{◌||◌, arith}
use Rattle.aig_graph.specs.Made.{IsMade}
use Rattle.aig_graph.proofs.LargerGraphs.{grown_twice}
use Rattle.expansion.specs.Table.{point_bits}
use Rattle.candidate_functions.specs.Pairs.{IsPatched}
use Rattle.candidate_functions.proofs.PatchedNodes.{patched_by}
use Rattle.candidate_functions.proofs.patches.patched.Goals as goal

pub returns-in_err-ones-clause-extends : goal.returns-in_err-ones-clause-extends
returns-in_err-ones-clause-extends c = search (arith, grown_twice)

pub returns-clause-extends : goal.returns-clause-extends
returns-clause-extends c = search (arith, grown_twice)

pub returns-clause-patched : goal.returns-clause-patched
returns-clause-patched c =
    let old = c.args.graph.now in
    let mid = c.masked.new.graph in
    let last = c.at_pair.new.graph in
    let new = c.or.new.self in
    let points = point_bits c.args.points.now in
    IfOk-weaker c.or.result (IsMade (λ x y. x || y) last new c.in_ok-ones.ones c.in_ok-rest.rest)
    (IsPatched old new points c.args.y c.args.pairs.now c.args.other)
    (λ n made. patched_by old mid last new points c.args.y c.args.pairs.now c.args.other c.in_ok-rest.rest
    c.in_ok-ones.ones n c.in_ok-rest.ensures.extends c.in_ok-ones.ensures.extends
    c.requires.cubes c.in_ok-rest.ensures.masked c.in_ok-ones.ensures.at_pair made) c.or.ensures.made
