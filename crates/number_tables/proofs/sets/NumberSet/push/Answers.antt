use Rattle.std.proofs.Common.{◌∙◌}
use Rattle.number_tables.proofs.NumberPlaces.{with_new}
use Rattle.number_tables.proofs.sets.NumberSet.push.Goals as goal

pub returns-clause-ok : goal.returns-clause-ok
returns-clause-ok c = c.in_ok-insert.ensures.numbers ∙ with_new c.args.self.now c.args.number c.requires
