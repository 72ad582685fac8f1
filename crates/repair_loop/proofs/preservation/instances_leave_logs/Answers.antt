use Rattle.repair_loop.proofs.Stages.{logs_left}
use Rattle.repair_loop.proofs.preservation.instances_leave_logs.Goals as goal

pub returns : goal.returns
returns c = logs_left c.engines_leave_sessions.ensures
