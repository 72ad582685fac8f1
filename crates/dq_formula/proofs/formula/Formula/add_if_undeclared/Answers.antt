use Rattle.std.proofs.Common.{sym, ◌∙◌, ap, arith}
use Rattle.dq_formula.specs.Prefix.{is_declared}
use Rattle.dq_formula.proofs.Free.{declared_literal, undeclared_literal}
use Rattle.dq_formula.proofs.formula.Formula.add_if_undeclared.Goals as goal

pub returns-then-is_declared : goal.returns-then-is_declared
returns-then-is_declared c =
    let f = c.args.self.now in
    let declared = ap (is_declared f) (sym c.var-v.ensures.value) ∙ sym c.is_declared.ensures ∙ c.if-is_declared.true in
    λ clauses clause are. declared_literal f clauses clause c.args.lit c.args.vars.now declared are

pub returns : goal.returns
returns c =
    let f = c.args.self.now in
    let undeclared = ap (is_declared f) (sym c.var-v.ensures.value) ∙ sym c.is_declared.ensures
    ∙ c.if-is_declared.false in
    let inserted = rw c.var-v.ensures.value at c.in_ok-insert.ensures.numbers in
    λ clauses clause are. undeclared_literal f clauses clause c.args.lit c.args.vars.now c.insert.new.self undeclared
    (omega (arith, c.var-v.ensures.value, c.var-v.ensures.from_one)) c.requires inserted are
