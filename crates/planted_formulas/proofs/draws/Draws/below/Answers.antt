use Rattle.std.proofs.Common.{refl}
use Rattle.planted_formulas.specs.Planted.{next_state}
use Rattle.planted_formulas.proofs.draws.Draws.below.Goals as goal

pub returns-clause-state : goal.returns-clause-state
unfolding next_state
returns-clause-state c = refl
