use Rattle.std.proofs.Common.{◌||◌}
use Rattle.std.proofs.lemmas.Result.{IfOk-weaker}
use Rattle.aig_graph.specs.Made.{IsMade}
use Rattle.candidate_functions.specs.Pairs.{IsWith}
use Rattle.candidate_functions.proofs.PatchedNodes.{with_one}
use Rattle.candidate_functions.proofs.patches.with_cube.Goals as goal

pub returns-then-is_one-clause-with : goal.returns-then-is_one-clause-with
returns-then-is_one-clause-with c =
    IfOk-weaker c.or.result (IsMade (λ x y. x || y) c.args.graph.now c.or.new.self c.args.made c.args.cube)
    (IsWith c.args.graph.now c.or.new.self c.args.made c.args.is_one c.args.cube)
    (λ node one. with_one c.args.graph.now c.or.new.self c.args.made c.args.is_one c.args.cube node c.if-is_one.true
    one) c.or.ensures.made
