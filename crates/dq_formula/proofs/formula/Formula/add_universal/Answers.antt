use Rattle.dq_formula.proofs.Kept.{IsKept-universal, formula_of-universal}
use Rattle.dq_formula.proofs.formula.Formula.add_universal.Goals as goal

pub invariant_of-self-2 : goal.invariant_of-self-2
invariant_of-self-2 c =
    let f = c.self.inside in
    let undeclared = rw (← c.self.view_is) at c.requires.undeclared in
    let high = rw (← c.self.view_is) at c.requires.in_range in
    IsKept-universal f.vars f.universals f.existentials f.matrix c.args.v c.insert.new.self c.self.invariant
    c.requires.from_one high undeclared c.in_ok-insert.ensures.numbers

pub returns-clause-ok : goal.returns-clause-ok
returns-clause-ok c =
    let f = c.self.inside in
    let undeclared = rw (← c.self.view_is) at c.requires.undeclared in
    rw (← c.self.view_is) (formula_of-universal f.vars f.universals f.existentials f.matrix c.args.v c.insert.new.self
    c.self.invariant undeclared c.in_ok-insert.ensures.numbers)
