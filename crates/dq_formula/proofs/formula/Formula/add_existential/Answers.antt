use Rattle.dq_formula.proofs.Kept.{IsKept-existential, formula_of-existential, undeclared-keys}
use Rattle.dq_formula.proofs.formula.Formula.add_existential.Goals as goal

pub push-requires : goal.push-requires
push-requires c =
    let f = c.self.inside in
    (undeclared-keys f.vars f.universals f.existentials f.matrix c.args.y
    (rw (← c.self.view_is) at c.requires.undeclared)).1

pub invariant_of-self-2 : goal.invariant_of-self-2
invariant_of-self-2 c =
    let f = c.self.inside in
    let undeclared = rw (← c.self.view_is) at c.requires.undeclared in
    let high = rw (← c.self.view_is) at c.requires.in_range in
    let form = rw (← c.self.view_is) at c.requires.form in
    rw c.in_ok-push.ensures.ok (IsKept-existential f.vars f.universals f.existentials f.matrix c.args.y c.args.deps
    c.self.invariant c.requires.from_one high undeclared form)

pub returns-clause-ok : goal.returns-clause-ok
returns-clause-ok c =
    let f = c.self.inside in
    rw (← c.self.view_is, c.in_ok-push.ensures.ok) (formula_of-existential f.vars f.universals f.existentials f.matrix
    (c.args.y, c.args.deps))
