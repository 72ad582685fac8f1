use Rattle.repair_loop.proofs.Stages.{failure_round}
use Rattle.repair_loop.proofs.preservation.failures_are_rounds.Goals as goal

pub returns : goal.returns
returns c =
    failure_round c.failures_refute_rows.ensures c.rounds_leave_databases.ensures c.checkers_stay_with_rounds.ensures
    c.rounds_leave_copies.ensures c.rounds_leave_stores.ensures
