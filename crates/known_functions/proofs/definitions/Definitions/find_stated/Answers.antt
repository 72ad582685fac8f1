use Rattle.std.proofs.Common.{refl}
use Rattle.definition_order.proofs.Places.{existential_there}
use Rattle.known_functions.proofs.definitions.Definitions.find_stated.Goals as goal

pub stated_rule-requires-clause-existential : goal.stated_rule-requires-clause-existential
stated_rule-requires-clause-existential c =
    let here = existential_there c.args.existential.now.f.now c.every_formula_is_lawful.ensures
    c.existentials.result.now c.existentials.ensures c.args.existential.now.place c.requires.place in
    rw here.2 refl
