use Rattle.std.proofs.Common.{◌≡◌, false, [], take}
use Rattle.std.specs.Prelude.{slice_index_or}
use Rattle.dq_prep.specs.Units.{taken_literals, is_satisfied}
use Rattle.dq_prep.proofs.takings.Taking.is_satisfied.Given as goal

abbrev pub invariant-loop-l : goal.invariant-loop-l
invariant-loop-l l =
    is_satisfied (taken_literals l.self.trace)
    (take l.l-index (slice_index_or l.self.formula.now.matrix l.place [])) ≡ false
