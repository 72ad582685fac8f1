use Rattle.std.proofs.Common.{arith}
use Rattle.cert_export.proofs.refutations.clause_numbers.Goals as goal
use Rattle.list_laws.proofs.Numbers.{range_more}

pub loop-place-preserved : goal.loop-place-preserved
loop-place-preserved c = search (arith, (range_more 1))
