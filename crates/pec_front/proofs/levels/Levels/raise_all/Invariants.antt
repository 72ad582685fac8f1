use Rattle.pec_front.specs.Steps.{level_in, IsSized, SameVariables}
use Rattle.pec_front.proofs.RaisedLevels.{RaisedFirst}
use Rattle.pec_front.proofs.levels.Levels.raise_all.Given as goal

abbrev pub invariant-loop-place : goal.invariant-loop-place
invariant-loop-place l = record {
  raised : RaisedFirst l.circuit l.boxes l.order l.place-index (level_in l.self);
  sized : IsSized l.self;
  same : SameVariables l.initial.self l.self;
}
