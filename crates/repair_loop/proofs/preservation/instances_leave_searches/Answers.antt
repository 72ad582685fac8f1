use Rattle.repair_loop.proofs.Stages.{instances_left}
use Rattle.repair_loop.proofs.preservation.instances_leave_searches.Goals as goal

pub returns : goal.returns
returns c =
    instances_left c.engines_leave_sessions.ensures c.engines_leave_stores.ensures c.sessions_leave_copies.ensures
    c.active_groups_are_stored.ensures c.checkers_stay.ensures
