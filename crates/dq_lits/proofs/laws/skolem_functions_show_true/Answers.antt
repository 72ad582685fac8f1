use Rattle.dq_lits.proofs.Skolem.{skolem_functions_solve}
use Rattle.dq_lits.proofs.laws.skolem_functions_show_true.Goals as goal

pub returns : goal.returns
returns c = skolem_functions_solve
