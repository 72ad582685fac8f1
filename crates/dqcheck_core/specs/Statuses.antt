-- The numbers of the statuses of answers.
use Rattle.std.specs.Prelude.{ℕ}
use Rattle.dqcheck_core.specs.declared.statuses.CheckStatus.{CheckStatus}
use Rattle.dqcheck_core.specs.declared.statuses.CheckStatus.TheVariants.{Accepted, RefusedCertificate, WrongCertificate, Unproved}

abbrev pub code : CheckStatus → ℕ
code Accepted = 0
code RefusedCertificate = 7
code WrongCertificate = 8
code Unproved = 9
