use Rattle.std.proofs.Common.{take}
use Rattle.dq_prep.specs.Units.{taken_literals}
use Rattle.dq_prep.specs.Roles.{AreOpen}
use Rattle.dq_prep.proofs.takings.Taking.opens.Given as goal

abbrev pub invariant-loop-l : goal.invariant-loop-l
invariant-loop-l l =
    AreOpen l.self.formula.now (taken_literals l.self.trace) (take l.l-index l.clause) l.opens
