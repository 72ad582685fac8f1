use Rattle.candidate_functions.proofs.RowWords.{AreInputsSoFar}
use Rattle.candidate_functions.proofs.values.input_words.Given as goal

abbrev pub invariant-loop-place : goal.invariant-loop-place
invariant-loop-place l = AreInputsSoFar l.table.rows l.first l.place l.words.items
