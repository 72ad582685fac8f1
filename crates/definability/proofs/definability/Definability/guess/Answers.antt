use Rattle.std.proofs.Common.{sym, ◌∙◌, subst}
use Rattle.std.specs.List.{Contains}
use Rattle.dq_lits.specs.Formula.{Existential, declared}
use Rattle.definability.specs.Seeing.{AreCopiedPlaces}
use Rattle.definability.proofs.GivenAnswers.{posed_of, is_guess}
use Rattle.definability.proofs.KeptPlaces.{declared_copies}
use Rattle.definability.proofs.definability.Definability.guess.Goals as goal

pub ask-requires-clause-posed : goal.ask-requires-clause-posed
ask-requires-clause-posed g c =
    let f = c.args.f.now in
    let flags = c.args.self.now.copied.items in
    posed_of f c.every_formula_is_lawful.ensures flags (λ (e : Existential). Contains e.sees) c.args.y
    c.args.conditions.now c.deref-2.result.now c.deref.result.now c.requires.definability.as_many_flags c.requires.existential
    (λ e found. subst (AreCopiedPlaces (declared f) (Contains e.sees) flags) (sym c.deref.ensures.value)
    (declared_copies f (Contains e.sees) flags c.in_ok-places.places.items (c.in_ok-places.ensures e found)))
    c.requires.declared c.requires.consistent c.requires.others (c.deref-2.ensures.value ∙ c.in_ok-kept.ensures)

pub returns-clause-guess : goal.returns-clause-guess
returns-clause-guess g c = λ e found.
    let f = c.args.f.now in
    let flags = c.args.self.now.copied.items in
    is_guess f c.every_formula_is_lawful.ensures flags c.in_ok-others.others c.ask.new.graph c.args.y e
    c.deref.result.now c.args.conditions.now c.deref-2.result.now c.requires.definability.as_many_flags found
    (subst (AreCopiedPlaces f.universals (Contains e.sees) flags) (sym c.deref.ensures.value)
    (c.in_ok-places.ensures e found)) (c.deref-2.ensures.value ∙ c.in_ok-kept.ensures)
    c.in_ok-others.ensures
    c.in_ok-answer.answer c.in_ok-answer.ensures.answer
