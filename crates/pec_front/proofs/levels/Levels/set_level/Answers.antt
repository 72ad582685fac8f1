use Rattle.std.proofs.Common.{arith}
use Rattle.pec_front.proofs.RaisedLevels.{level-set}
use Rattle.pec_front.proofs.levels.Levels.set_level.Goals as goal

pub returns-clause-level : goal.returns-clause-level
returns-clause-level c = search (arith, level-set)
