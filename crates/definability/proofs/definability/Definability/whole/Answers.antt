use Rattle.std.proofs.Common.{arith}
use Rattle.definability.proofs.definability.Definability.whole.Goals as goal

pub returns-clause-whole : goal.returns-clause-whole
returns-clause-whole g c = λ v k is. c.in_ok-definability.ensures.copies.flags k (omega arith)
