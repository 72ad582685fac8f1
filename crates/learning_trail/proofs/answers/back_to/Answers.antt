use Rattle.std.proofs.Common.{arith}
use Rattle.learning_trail.proofs.SearchTurns.{back_more, back_still}
use Rattle.learning_trail.proofs.answers.back_to.Goals as goal

pub loop-step-preserved : goal.loop-step-preserved
loop-step-preserved c = search (arith, back_more, back_still)
