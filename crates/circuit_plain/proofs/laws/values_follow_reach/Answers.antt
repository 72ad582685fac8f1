use Rattle.circuit_plain.proofs.ValueLaws.{values_follow_reach}
use Rattle.circuit_plain.proofs.laws.values_follow_reach.Goals as goal

pub returns : goal.returns
returns c = values_follow_reach
