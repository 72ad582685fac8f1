use Rattle.std.proofs.Common.{refl, arith}
use Rattle.known_functions.proofs.Defined.{forced_rule}
use Rattle.known_functions.proofs.Forced.{forced_by}
use Rattle.definition_order.proofs.Places.{existential_there}
use Rattle.known_functions.proofs.definitions.Definitions.force_bit.Goals as goal

pub force-requires-clause-existential : goal.force-requires-clause-existential
force-requires-clause-existential g c =
    let here = existential_there c.args.existential.now.f.now c.every_formula_is_lawful.ensures
    c.existentials.result.now c.existentials.ensures c.args.existential.now.place c.requires.place in
    rw here.2 refl

pub returns-in_err-forced-clause-forced : goal.returns-in_err-forced-clause-forced
returns-in_err-forced-clause-forced g c = search (arith, forced_by)

pub returns-in_err-keep-clause-forced : goal.returns-in_err-keep-clause-forced
returns-in_err-keep-clause-forced g c =
    let f = c.args.existential.now.f.now in
    let here = existential_there f c.every_formula_is_lawful.ensures
    c.existentials.result.now c.existentials.ensures c.args.existential.now.place c.requires.place in
    let rules = c.keep.ensures.rules f (forced_rule f here.0 c.row.result.now c.bit-bit.result c.in_ok-forced.forced
    (c.in_ok-forced.ensures.forced here.0 here.2)) c.requires.may.forced in
    forced_by f c.args.existential.now.definability.now c.args.self.now _ c.args.log.now c.force.new.log
    c.keep.ensures.ranks c.keep.ensures.nodes c.keep.ensures.guesses rules c.force.ensures.grew
    c.force.ensures.same_givens c.force.ensures.definability

pub returns-clause-forced : goal.returns-clause-forced
returns-clause-forced g c =
    let f = c.args.existential.now.f.now in
    let here = existential_there f c.every_formula_is_lawful.ensures
    c.existentials.result.now c.existentials.ensures c.args.existential.now.place c.requires.place in
    let rules = c.keep.ensures.rules f (forced_rule f here.0 c.row.result.now c.bit-bit.result c.in_ok-forced.forced
    (c.in_ok-forced.ensures.forced here.0 here.2)) c.requires.may.forced in
    forced_by f c.args.existential.now.definability.now c.args.self.now _ c.args.log.now c.force.new.log
    c.keep.ensures.ranks c.keep.ensures.nodes c.keep.ensures.guesses rules c.force.ensures.grew
    c.force.ensures.same_givens c.force.ensures.definability
