use Rattle.repair_loop.proofs.Stages.{questions_left}
use Rattle.repair_loop.proofs.preservation.questions_leave_searches.Goals as goal

pub returns : goal.returns
returns c =
    questions_left c.engines_leave_sessions.ensures c.engines_leave_databases.ensures c.engines_leave_stores.ensures
    c.checkers_stay.ensures
