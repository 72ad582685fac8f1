use Rattle.std.proofs.Common.{◌≤◌, length, take, reverse}
use Rattle.std.specs.List.Sorted.{IsNonDecreasing}
use Rattle.oracle.specs.Fit.{live_in}
use Rattle.learning_trail.specs.Backing.{IsTrimmed}
use Rattle.learning_trail.proofs.ListedPlaces.{AreBelow}
use Rattle.learning_trail.proofs.analysis.add_rest.Given as goal

abbrev pub invariant-loop-at : goal.invariant-loop-at
invariant-loop-at g l = record {
  within : l.at ≤ length l.notes.places;
  long : l.end ≤ length l.steps;
  sorted : IsNonDecreasing l.notes.places;
  below : AreBelow l.fn.notes.marks l.steps l.notes.places l.at l.end;
  trimmed : IsTrimmed (live_in (g.C.Clauses.clauses l.clauses)) l.trail.steps
      (reverse (take l.end l.steps)) l.fn.notes l.notes;
}

abbrev pub decreases-loop-at : goal.decreases-loop-at
decreases-loop-at g l = l.at
