use Rattle.dq_lits.proofs.laws.no_formula_is_both.Goals as goal

pub returns : goal.returns
returns c f true_formula false_formula = false_formula true_formula.0 true_formula.1
