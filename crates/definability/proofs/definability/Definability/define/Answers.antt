use Rattle.std.proofs.Common.{[], refl, sym, subst}
use Rattle.dq_lits.specs.Formula.{declared}
use Rattle.definition_order.specs.Order.{MayRead}
use Rattle.std.proofs.lemmas.List.Elements.{All-nil}
use Rattle.definability.specs.Dividing.{IsAnswerAt}
use Rattle.definability.specs.Seeing.{AreCopiedPlaces}
use Rattle.definability.proofs.GivenAnswers.{posed_of, is_defined, is_free}
use Rattle.definability.proofs.definability.Definability.define.Goals as goal

pub ask-requires-clause-posed : goal.ask-requires-clause-posed
ask-requires-clause-posed g c =
    let f = c.args.f.now in
    let flags = c.args.self.now.copied.items in
    posed_of f c.every_formula_is_lawful.ensures flags (MayRead f c.args.ranks.now) c.args.y [] []
    c.deref.result.now c.requires.definability.as_many_flags c.requires.existential
    (λ e found. subst (AreCopiedPlaces (declared f) (MayRead f c.args.ranks.now e) flags) (sym c.deref.ensures.value)
    (c.in_ok-places.ensures e found)) (All-nil _) refl (All-nil _) refl

pub returns-in-Node-clause-found : goal.returns-in-Node-clause-found
returns-in-Node-clause-found g c = λ e found.
    let f = c.args.f.now in
    let ranks = c.args.ranks.now in
    let places = c.deref.result.now in
    let flags = c.args.self.now.copied.items in
    let graph = c.ask.new.graph in
    is_defined f ranks graph c.args.y e places c.in-Node.node flags found
    (subst (AreCopiedPlaces (declared f) (MayRead f ranks e) flags) (sym c.deref.ensures.value)
    (c.in_ok-places.ensures e found))
    (subst (IsAnswerAt f flags c.in_ok-others.others places c.args.y [] graph) c.in-Node.is c.in_ok-node.ensures.answer)

pub returns-clause-found : goal.returns-clause-found
returns-clause-found g c = λ e found.
    let f = c.args.f.now in
    let ranks = c.args.ranks.now in
    let places = c.deref.result.now in
    let flags = c.args.self.now.copied.items in
    let graph = c.ask.new.graph in
    is_free f c.every_formula_is_lawful.ensures flags c.in_ok-others.others ranks c.args.y e places c.in-Pair.pair
    c.requires.definability.as_many_flags found
    (subst (AreCopiedPlaces (declared f) (MayRead f ranks e) flags) (sym c.deref.ensures.value)
    (c.in_ok-places.ensures e found))
    (subst (IsAnswerAt f flags c.in_ok-others.others places c.args.y [] graph) c.in-Pair.is c.in_ok-node.ensures.answer)
