use Rattle.std.proofs.Common.{◌≡◌, ◌∙◌, ◌<◌, length, refl, ap, arith, length-set}
use Rattle.std.proofs.lemmas.List.{length-map}
use Rattle.dq_formula.specs.Prefix.{existential_variables}
use Rattle.known_functions.proofs.Asked.{nothing_asked, asked_then}
use Rattle.known_functions.proofs.Defined.{guess_known, left_known}
use Rattle.definition_order.proofs.Places.{existential_there}
use Rattle.known_functions.proofs.definitions.Definitions.guess_each.Goals as goal

pub guess-requires-clause-may : goal.guess-requires-clause-may
guess-requires-clause-may g c = c.loop-place.invariant.asked.may

pub loop-place-init : goal.loop-place-init
loop-place-init g c = search (arith, nothing_asked)

pub loop-place-preserved : goal.loop-place-preserved
loop-place-preserved g c =
    let inv = c.loop-place.invariant in
    let f = c.args.f.now in
    let place = c.loop-place.place in
    let d = c.guess.new.self in
    let left = c.guess.ensures.left in
    let lawful = c.every_formula_is_lawful.ensures in
    let many : length c.existentials-place-end.result.now ≡ length f.existentials =
    ap length c.existentials-place-end.ensures ∙ length-map f.existentials (λ y. y.variable) in
    let inside : place < length f.existentials = omega (arith, c.loop-place-test.true, many) in
    let here = existential_there f lawful (existential_variables f) refl place inside in
    let graph = c.guess.new.graph in
    let guess = c.in_ok-self.field-0 in
    let as_many = ap length left.guesses ∙ inv.many in
    record {
      fit = c.guess.ensures.fit;
      asked = asked_then c.args.f.now c.args.graph.now c.loop-place.graph c.guess.new.graph c.args.definability.now
          c.args.log.now c.loop-place.log c.guess.new.log c.loop-place.invariant.asked
          c.guess.ensures.asked;
      known = guess_known f d.ranks.items lawful.prefix c.loop-place.graph graph place here.0 d.nodes.items
          d.rules.items d.guesses.items guess c.guess.ensures.asked.extends as_many here.1
          (c.in_ok-self.ensures.guess here.0 here.1) (left_known f c.loop-place.graph c.loop-place.self d left
          inv.known);
      many = length-set d.guesses.items place guess ∙ as_many;
    }

pub returns-in_err-self-clause-asked : goal.returns-in_err-self-clause-asked
returns-in_err-self-clause-asked g c = search (arith, asked_then)
