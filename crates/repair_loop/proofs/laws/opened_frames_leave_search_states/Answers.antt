use Rattle.repair_loop.proofs.ReadySearchStates.{frames_open}
use Rattle.repair_loop.proofs.laws.opened_frames_leave_search_states.Goals as goal

pub returns : goal.returns
returns c = frames_open c.opened_frames_leave_databases.ensures
