use Rattle.std.proofs.Common.{length}
use Rattle.oracle.specs.Fit.{live_in}
use Rattle.learning_trail.specs.Backing.{IsKeeping}
use Rattle.learning_trail.proofs.answers.back_to_decisions.Given as goal

abbrev pub invariant-loop-step : goal.invariant-loop-step
invariant-loop-step g l = IsKeeping (live_in (g.C.Clauses.clauses l.clauses)) l.fn.trail l.trail l.fn.notes l.notes

abbrev pub decreases-loop-step : goal.decreases-loop-step
decreases-loop-step g l = length l.trail.steps
