use Rattle.std.proofs.Common.{arith}
use Rattle.aig_graph.proofs.LargerGraphs.{grown_twice}
use Rattle.candidate_functions.proofs.classes.Class.pairs_to_patch.Goals as goal

pub patch_at-requires-clause-pairs : goal.patch_at-requires-clause-pairs
patch_at-requires-clause-pairs c = search arith

pub returns-in_err-patch_at-clause-extends : goal.returns-in_err-patch_at-clause-extends
returns-in_err-patch_at-clause-extends c = search (arith, grown_twice)

pub loop-at-preserved : goal.loop-at-preserved
loop-at-preserved c =
    search (
      arith,
      (grown_twice c.args.graph.now c.loop-at.graph c.patch_at.new.graph c.loop-at.invariant.grown c.patch_at.ensures.extends),
    )
