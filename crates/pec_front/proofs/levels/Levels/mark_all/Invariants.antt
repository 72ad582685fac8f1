use Rattle.pec_front.specs.Steps.{level_in, IsSized, SameVariables, AreMarked}
use Rattle.pec_front.proofs.levels.Levels.mark_all.Given as goal

abbrev pub invariant-loop-i : goal.invariant-loop-i
invariant-loop-i l = record {
  marked : AreMarked l.circuit l.boxes l.i (level_in l.self);
  sized : IsSized l.self;
  same : SameVariables l.initial.self l.self;
}
