use Rattle.std.proofs.Common.{refl}
use Rattle.planted_formulas.specs.Planted.{next_state}
use Rattle.planted_formulas.proofs.examples.three_gates.Goals as goal

pub returns : goal.returns
unfolding next_state
returns c = refl
