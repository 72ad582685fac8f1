use Rattle.std.proofs.Common.{arith}
use Rattle.std.proofs.lemmas.List.{length-map}
use Rattle.std.proofs.lemmas.Option.{slice_get_within, get_or_from_slice_get}
use Rattle.dq_formula.proofs.ExistentialColumns.{at_place}
use Rattle.dq_formula.proofs.formula.Formula.set_at.Goals as goal

pub set_at-requires : goal.set_at-requires
set_at-requires c = search (arith, length-map)

pub returns-clause-set : goal.returns-clause-set
returns-clause-set c =
    let f = c.self.inside in
    rw (← c.self.view_is) (at_place f.universals f.existentials c.args.place c.set_at.result.now c.set_at.ensures)

pub returns-clause-form : goal.returns-clause-form
returns-clause-form c = search (arith, get_or_from_slice_get, slice_get_within)
