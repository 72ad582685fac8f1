use Rattle.definability.proofs.LinkedInterpolants.{definitions_forced}
use Rattle.definability.proofs.laws.definitions_are_forced.Goals as goal

pub returns : goal.returns
returns c = definitions_forced
