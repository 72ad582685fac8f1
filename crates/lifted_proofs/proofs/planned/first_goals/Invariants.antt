use Rattle.std.proofs.Common.{take}
use Rattle.lifted_proofs.specs.Planned.{AreFirstGoals}
use Rattle.lifted_proofs.proofs.planned.first_goals.Given as goal

abbrev pub invariant-loop-h : goal.invariant-loop-h
invariant-loop-h l = AreFirstGoals l.sources (take l.h-index l.wanted) l.goals.items
