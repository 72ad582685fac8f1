use Rattle.std.proofs.Common.{◌≡◌, false, replicate, length}
use Rattle.aig_graph.proofs.WrittenBits.{written}
use Rattle.aig_graph.specs.Words.{word_bit}
use Rattle.candidate_functions.proofs.values.row_of.Given as goal

abbrev pub invariant-loop-place : goal.invariant-loop-place
invariant-loop-place l = l.row ≡ written (word_bit l.b) l.words (replicate (length l.words) false) l.place
