use Rattle.std.proofs.Common.{arith}
use Rattle.list_laws.proofs.Results.{on_ok}
use Rattle.cdcl_core.proofs.HeldLogs.{all_awake}
use Rattle.cdcl_core.proofs.waking.wake.Goals as goal

pub returns-then-is_any_resting-clause-awake : goal.returns-then-is_any_resting-clause-awake
returns-then-is_any_resting-clause-awake c = search (arith, on_ok, all_awake)
