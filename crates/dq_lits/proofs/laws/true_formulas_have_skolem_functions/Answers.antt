use Rattle.dq_lits.proofs.Skolem.{true_formula_has_functions}
use Rattle.dq_lits.proofs.laws.true_formulas_have_skolem_functions.Goals as goal

pub returns : goal.returns
returns c = true_formula_has_functions
