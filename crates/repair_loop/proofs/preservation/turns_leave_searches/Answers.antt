use Rattle.repair_loop.proofs.Stages.{turns_left}
use Rattle.repair_loop.proofs.preservation.turns_leave_searches.Goals as goal

pub returns : goal.returns
returns c =
    turns_left c.engines_leave_sessions.ensures c.circuits_add_live.ensures c.engines_leave_databases.ensures
    c.engines_leave_stores.ensures c.sessions_leave_copies.ensures c.active_groups_are_stored.ensures
