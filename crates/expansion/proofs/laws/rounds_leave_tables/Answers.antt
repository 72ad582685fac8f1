use Rattle.expansion.proofs.PreservedTables.{round_left}
use Rattle.expansion.proofs.laws.rounds_leave_tables.Goals as goal

pub returns : goal.returns
returns c = round_left
