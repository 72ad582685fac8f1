use Rattle.std.proofs.Common.{arith}
use Rattle.list_laws.proofs.Results.{on_ok}
use Rattle.cdcl_core.proofs.HeldLogs.{put_aside}
use Rattle.cdcl_core.proofs.waking.put_clause.Goals as goal

pub returns-then-is_put_aside : goal.returns-then-is_put_aside
returns-then-is_put_aside c = search (arith, on_ok, put_aside)
