use Rattle.std.proofs.Common.{arith}
use Rattle.definition_order.proofs.Declared.{declared_at}
use Rattle.candidate_functions.proofs.guesses.Trees.bit.Goals as goal

pub seen-requires : goal.seen-requires
seen-requires c = search (arith, declared_at)
