use Rattle.dq_formula.proofs.Entries.{map-variable}
use Rattle.dq_formula.proofs.formula.Formula.existential_place.Goals as goal

pub returns : goal.returns
returns c =
    let f = c.self.inside in
    rw (← c.self.view_is, map-variable f.universals f.existentials)
    c.place.ensures
