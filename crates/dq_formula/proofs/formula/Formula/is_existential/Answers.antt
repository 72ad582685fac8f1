use Rattle.std.proofs.Common.{◌∙◌, ap, sym, eqb, map}
use Rattle.dq_lits.specs.Formula.{Existential}
use Rattle.dq_formula.specs.Layout.{existential}
use Rattle.dq_formula.proofs.Entries.{map-variable, is_some-find, list_any-map}
use Rattle.dq_formula.proofs.Places.{has}
use Rattle.dq_formula.proofs.formula.Formula.is_existential.Goals as goal

pub returns : goal.returns
returns c =
    let f = c.self.inside in
    let v = c.args.v in
    rw (← c.self.view_is)
    (c.contains.ensures ∙ sym (is_some-find (λ (y : Existential). eqb y.variable v)
    (map (existential f.universals) f.existentials)
    ∙ sym (list_any-map (λ n. eqb n v) (λ (y : Existential). y.variable)
    (map (existential f.universals) f.existentials))
    ∙ ap (λ ks. has ks v) (map-variable f.universals f.existentials)))
