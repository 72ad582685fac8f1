use Rattle.std.proofs.Common.{arith}
use Rattle.skolem_checker.proofs.SightsLaws.{none_marked}
use Rattle.skolem_checker.proofs.words.clear.Goals as goal

pub returns-clause-none : goal.returns-clause-none
returns-clause-none c = search (arith, none_marked)
