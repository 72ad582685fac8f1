use Rattle.candidate_functions.proofs.RowWords.{AreSeen}
use Rattle.candidate_functions.proofs.values.values_at_rows.Given as goal

abbrev pub invariant-loop-part : goal.invariant-loop-part
invariant-loop-part l = AreSeen l.table.rows l.graph l.nodes l.rows l.part l.values
