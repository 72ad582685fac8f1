-- The numbers of the statuses of verdicts.
use Rattle.std.specs.Prelude.{ℕ}
use Rattle.dq_verdicts.specs.declared.statuses.SolveStatus.{SolveStatus}
use Rattle.dq_verdicts.specs.declared.statuses.SolveStatus.TheVariants.{True, False, Unknown}

abbrev pub code : SolveStatus → ℕ
code True = 10
code False = 20
code Unknown = 0
