-- How a clause stands, as its literals are read one by one.
use Rattle.dq_lits.specs.Derivation.{ClauseStatus, falsified, unit, stuck}
use Rattle.learning_trail.specs.declared.statuses.ClauseStatus.{ClauseStatus as Stands}
use Rattle.learning_trail.specs.declared.statuses.ClauseStatus.TheVariants.{Falsified, Unit as UnitClause, Stuck}

abbrev pub seen : Stands → ClauseStatus
seen Falsified = falsified
seen (UnitClause l) = unit l
seen Stuck = stuck
