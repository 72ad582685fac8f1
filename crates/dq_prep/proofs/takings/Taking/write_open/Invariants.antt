use Rattle.std.proofs.Common.{◌≡◌, [], take}
use Rattle.std.specs.Prelude.{slice_index_or}
use Rattle.dq_prep.specs.Units.{taken_literals, without_false}
use Rattle.dq_prep.proofs.takings.Taking.write_open.Given as goal

abbrev pub invariant-loop-l : goal.invariant-loop-l
invariant-loop-l l =
    l.rest.items
    ≡ without_false (taken_literals l.self.trace)
    (take l.l-index (slice_index_or l.self.formula.now.matrix l.place []))
