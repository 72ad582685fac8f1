use Rattle.definability.proofs.KeptCopies.{rounds_leave}
use Rattle.definability.proofs.laws.rounds_leave_copies.Goals as goal

pub returns : goal.returns
returns c = rounds_leave
