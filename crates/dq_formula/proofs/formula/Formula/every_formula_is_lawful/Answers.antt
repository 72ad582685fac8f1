use Rattle.dq_formula.proofs.Lawful.{lawful}
use Rattle.dq_formula.proofs.formula.Formula.every_formula_is_lawful.Goals as goal

pub returns : goal.returns
returns c =
    let f = c.self.inside in
    rw (← c.self.view_is) (lawful f.vars f.universals f.existentials f.matrix c.self.invariant)
