use Rattle.std.proofs.Common.{arith}
use Rattle.pec_front.proofs.RaisedLevels.{marked-all}
use Rattle.pec_front.proofs.levels.Levels.mark.Goals as goal

pub returns-clause-marked : goal.returns-clause-marked
returns-clause-marked c = search (arith, marked-all)
