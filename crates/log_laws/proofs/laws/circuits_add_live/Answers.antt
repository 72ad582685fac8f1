use Rattle.log_laws.proofs.LiveEngines.{circuits_live}
use Rattle.log_laws.proofs.laws.circuits_add_live.Goals as goal

pub returns : goal.returns
returns c = circuits_live
