use Rattle.std.proofs.Common.{refl}
use Rattle.definition_order.proofs.Places.{existential_there}
use Rattle.known_functions.proofs.questions.sees_few.Goals as goal

pub seen-requires : goal.seen-requires
seen-requires c =
    let here = existential_there c.args.f.now c.every_formula_is_lawful.ensures c.existentials.result.now
    c.existentials.ensures c.args.place c.requires in
    rw here.2 refl
