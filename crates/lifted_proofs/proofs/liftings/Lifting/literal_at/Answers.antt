use Rattle.std.proofs.Common.{◌∙◌, [], length, get_or, refl, ap}
use Rattle.std.proofs.lemmas.Option.{slice_get_read}
use Rattle.lifted_proofs.specs.Goals.{clause_at}
use Rattle.lifted_proofs.specs.Liftings.{formula_of, place_at}
use Rattle.lifted_proofs.proofs.liftings.Lifting.literal_at.Goals as goal

pub returns : goal.returns
returns c =
    let l = c.args.self.now in
    let own = clause_at (formula_of l) (place_at l c.args.j) in
    let r = c.index-clause-q.result in
    slice_get_read own (length own) c.args.q r refl c.requires.place
    (c.index-clause-q.is ∙ ap (λ ls. get_or ls c.args.q r)
    (c.clause.ensures ∙ ap (λ p. get_or (formula_of l).matrix p []) c.place.ensures.is))
