use Rattle.candidate_functions.proofs.RowWords.{AreRowsPushed}
use Rattle.candidate_functions.proofs.values.push_rows.Given as goal

abbrev pub invariant-loop-b : goal.invariant-loop-b
invariant-loop-b l = AreRowsPushed l.words l.fn.values l.values l.fn.count l.b
