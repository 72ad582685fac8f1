use Rattle.std.proofs.Common.{arith}
use Rattle.session_runs.proofs.TakenCommands.{standing-at-start, session-done}
use Rattle.session_runs.proofs.sessions.session_by.Goals as goal

pub take_all-requires-clause-standing : goal.take_all-requires-clause-standing
take_all-requires-clause-standing g c = search (arith, standing-at-start)

pub returns-clause-text : goal.returns-clause-text
returns-clause-text g c = search (arith, session-done)
