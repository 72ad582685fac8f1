use Rattle.std.proofs.Common.{arith}
use Rattle.dq_formula.proofs.Lawful.{few_places}
use Rattle.definability.proofs.seeing.push_existentials.Goals as goal

pub overflow_add-first : goal.overflow_add-first
overflow_add-first c = search (arith, few_places)
