use Rattle.circuit_plain.proofs.ValueLaws.{grounded_have_values}
use Rattle.circuit_plain.proofs.laws.grounded_have_values.Goals as goal

pub returns : goal.returns
returns c = grounded_have_values
