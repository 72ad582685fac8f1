use Rattle.dq_formula.proofs.Kept.{IsKept-nothing}
use Rattle.dq_formula.proofs.formula.Formula.new.Goals as goal

pub invariant_of-result : goal.invariant_of-result
invariant_of-result c = rw (c.new.ensures, c.new-2.ensures, c.new-3.ensures) (IsKept-nothing c.args.vars c.requires)
