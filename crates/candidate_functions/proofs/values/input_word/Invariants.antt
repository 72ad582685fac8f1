use Rattle.candidate_functions.proofs.RowWords.{IsWordSoFar}
use Rattle.candidate_functions.proofs.values.input_word.Given as goal

abbrev pub invariant-loop-b : goal.invariant-loop-b
invariant-loop-b l = IsWordSoFar l.table.rows l.first l.place l.b l.word
