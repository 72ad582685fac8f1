-- The numbers of the statuses that all commands share.
use Rattle.std.specs.Prelude.{ℕ}
use Rattle.dq_runs.specs.declared.statuses.Failure.{Failure}
use Rattle.dq_runs.specs.declared.statuses.Failure.TheVariants.{Usage, RefusedFormula, SourceFault, SinkFault, WantOfMemory, TooLong}

abbrev pub code : Failure → ℕ
code Usage = 1
code RefusedFormula = 2
code SourceFault = 3
code SinkFault = 4
code WantOfMemory = 5
code TooLong = 6
