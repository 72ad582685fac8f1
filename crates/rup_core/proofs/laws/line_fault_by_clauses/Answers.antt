use Rattle.rup_core.proofs.JudgedLines.{line_derives}
use Rattle.rup_core.proofs.laws.line_fault_by_clauses.Goals as goal

pub returns : goal.returns
returns c = line_derives
