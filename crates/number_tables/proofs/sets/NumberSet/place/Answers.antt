use Rattle.std.proofs.Common.{ap, ◌∙◌, is_some}
use Rattle.number_tables.specs.Numbers.{place_of}
use Rattle.number_tables.proofs.NumberPlaces.{placed}
use Rattle.number_tables.proofs.sets.NumberSet.place.Goals as goal

pub returns-clause-found : goal.returns-clause-found
returns-clause-found c = ap is_some (c.get.ensures ∙ c.self.invariant c.args.number ∙ ap
    (λ ns. place_of ns c.args.number) c.self.view_is) ∙ placed c.args.self.now c.args.number
