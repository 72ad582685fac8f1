use Rattle.candidate_functions.proofs.WrittenRows.{WrittenSoFar}
use Rattle.candidate_functions.proofs.differing.inputs_of.Given as goal

abbrev pub invariant-loop-place : goal.invariant-loop-place
invariant-loop-place l = WrittenSoFar l.row l.inputs l.graph.inputs l.place
