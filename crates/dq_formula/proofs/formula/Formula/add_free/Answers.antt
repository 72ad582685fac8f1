use Rattle.std.proofs.Common.{◌≡◌, ◌++◌, map, ◌∙◌, arith}
use Rattle.dq_formula.specs.Layout.{unseeing_entry, formula_of}
use Rattle.dq_formula.specs.Prefix.{free_variables}
use Rattle.dq_formula.proofs.FreeExistentials.{kept-unseeing, distinct-unseeing, AreNew-free, formula_of-unseeing}
use Rattle.dq_formula.proofs.formula.Formula.add_free.Goals as goal

pub push_unseeing-requires : goal.push_unseeing-requires
push_unseeing-requires c =
    let f = c.self.inside in
    let us = f.universals in
    let es = f.existentials in
    let vs = free_variables (formula_of f.vars us es f.matrix) in
    let free : c.deref.result.now ≡ vs = c.deref.ensures.value ∙ (rw (← c.self.view_is) at c.in_ok-free.ensures) in
    let kept = kept-unseeing f.vars us f.matrix vs es c.self.invariant (AreNew-free f.vars us es f.matrix) in
    rw free (distinct-unseeing f.vars us f.matrix vs es kept)

pub returns-clause-ok : goal.returns-clause-ok
returns-clause-ok c =
    let f = c.self.inside in
    let us = f.universals in
    let es = f.existentials in
    let vs = free_variables (formula_of f.vars us es f.matrix) in
    let free : c.deref.result.now ≡ vs = c.deref.ensures.value ∙ (rw (← c.self.view_is) at c.in_ok-free.ensures) in
    let entries : c.push_unseeing.new.self ≡ es ++ map unseeing_entry vs = search arith in
    rw (← c.self.view_is, entries) (formula_of-unseeing f.vars us es f.matrix vs)

pub invariant_of-self-2 : goal.invariant_of-self-2
invariant_of-self-2 c =
    let f = c.self.inside in
    let us = f.universals in
    let es = f.existentials in
    let vs = free_variables (formula_of f.vars us es f.matrix) in
    let free : c.deref.result.now ≡ vs = c.deref.ensures.value ∙ (rw (← c.self.view_is) at c.in_ok-free.ensures) in
    let entries : c.push_unseeing.new.self ≡ es ++ map unseeing_entry vs = search arith in
    rw entries (kept-unseeing f.vars us f.matrix vs es c.self.invariant (AreNew-free f.vars us es f.matrix))
