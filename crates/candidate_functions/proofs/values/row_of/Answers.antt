use Rattle.std.proofs.Common.{replicate, arith}
use Rattle.aig_graph.proofs.WrittenBits.{written_more}
use Rattle.std.proofs.lemmas.List.{length-replicate}
use Rattle.candidate_functions.proofs.values.row_of.Goals as goal

pub loop-place-preserved : goal.loop-place-preserved
loop-place-preserved c = search (arith, written_more, replicate, length-replicate)
