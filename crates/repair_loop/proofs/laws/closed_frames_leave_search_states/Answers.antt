use Rattle.repair_loop.proofs.ReadySearchStates.{frames_close}
use Rattle.repair_loop.proofs.laws.closed_frames_leave_search_states.Goals as goal

pub returns : goal.returns
returns c = frames_close c.closed_frames_leave_databases.ensures
