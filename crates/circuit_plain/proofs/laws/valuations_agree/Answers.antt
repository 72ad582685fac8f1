use Rattle.circuit_plain.proofs.ValueLaws.{valuations_agree}
use Rattle.circuit_plain.proofs.laws.valuations_agree.Goals as goal

pub returns : goal.returns
returns c = valuations_agree
