use Rattle.headline.proofs.Copies.{wire_spelled, wire_held}
use Rattle.headline.proofs.a_wire_copies.Goals as goal

pub returns-clause-spelled : goal.returns-clause-spelled
returns-clause-spelled c = wire_spelled

pub returns-clause-skolem : goal.returns-clause-skolem
returns-clause-skolem c = wire_held
