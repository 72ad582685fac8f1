use Rattle.log_laws.proofs.LargerLogs.{leaves_rest}
use Rattle.log_laws.proofs.laws.engines_leave_the_rest.Goals as goal

pub returns : goal.returns
returns c = leaves_rest
