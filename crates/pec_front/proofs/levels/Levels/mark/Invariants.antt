use Rattle.pec_front.specs.Steps.{level_in, IsSized, SameVariables}
use Rattle.pec_front.proofs.RaisedLevels.{MarkedFirst}
use Rattle.pec_front.proofs.levels.Levels.mark.Given as goal

abbrev pub invariant-loop-out : goal.invariant-loop-out
invariant-loop-out l = record {
  marked : MarkedFirst (level_in l.initial.self) (level_in l.self) l.outs l.out-index l.level;
  sized : IsSized l.self;
  same : SameVariables l.initial.self l.self;
}
