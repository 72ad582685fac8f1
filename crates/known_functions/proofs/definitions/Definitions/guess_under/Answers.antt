use Rattle.std.proofs.Common.{refl, arith}
use Rattle.definition_order.proofs.Declared.{known_at}
use Rattle.definition_order.proofs.Places.{existential_there}
use Rattle.known_functions.proofs.definitions.Definitions.guess_under.Goals as goal

pub guess_within-requires-clause-existential : goal.guess_within-requires-clause-existential
guess_within-requires-clause-existential g c =
    let here = existential_there c.args.existential.now.f.now c.every_formula_is_lawful.ensures
    c.existentials.result.now c.existentials.ensures c.args.existential.now.place c.requires.place in
    rw here.2 refl

pub guess_within-requires-clause-conditions : goal.guess_within-requires-clause-conditions
guess_within-requires-clause-conditions g c = search arith

pub returns-clause-guess : goal.returns-clause-guess
returns-clause-guess g c e at = search (arith, known_at)
