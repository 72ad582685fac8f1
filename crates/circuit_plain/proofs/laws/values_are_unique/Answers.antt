use Rattle.circuit_plain.proofs.ValueLaws.{values_are_unique}
use Rattle.circuit_plain.proofs.laws.values_are_unique.Goals as goal

pub returns : goal.returns
returns c = values_are_unique
