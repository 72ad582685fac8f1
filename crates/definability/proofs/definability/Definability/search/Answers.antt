use Rattle.std.proofs.Common.{◌≡◌, ◌++◌, ◌∙◌, Ok, ap, sym, subst, arith}
use Rattle.oracle.proofs.SomeLimits.{some_limit}
use Rattle.std.specs.List.{All}
use Rattle.oracle.specs.Calls.{IsPlain, assumed}
use Rattle.oracle.specs.declared.oracles.Answer.TheVariants.{Unsat}
use Rattle.definability.proofs.ApartLiterals.{asked_plain, both_apart}
use Rattle.definability.proofs.SearchAnswers.{places_below, active_made, refuted_grew, shows, on_answer, two_joined, refuted_under, searched_learned, searched_refuted}
use Rattle.definability.proofs.definability.Definability.search.Goals as goal

pub active-requires : goal.active-requires
active-requires g c = search (arith, places_below)

pub solve-requires-clause-made : goal.solve-requires-clause-made
solve-requires-clause-made g c =
    search (
      arith,
      (active_made c.args.question.now.f.now c.args.self.now c.args.log.now.entries c.args.question.now.places.now c.in_ok-active.active.items c.requires.definability c.in_ok-active.ensures),
    )

pub solve-requires-clause-plain : goal.solve-requires-clause-plain
solve-requires-clause-plain g c =
    let question = c.args.question.now in
    let asked = c.args.asked.now in
    let both = two_joined c.deref.result.now c.deref-2.result.now asked.first.items asked.second.items
    c.in_ok-assume.assume.items c.deref-4.result.now c.deref.ensures.value c.deref-2.ensures.value
    c.in_ok-assume.ensures c.deref-4.ensures.value in
    subst (All (IsPlain c.args.log.now.entries)) (sym both) (asked_plain c.args.log.now.entries question.y
    question.conditions.now asked c.requires.copied)

pub solve-requires-clause-apart : goal.solve-requires-clause-apart
solve-requires-clause-apart g c = search (arith, two_joined, both_apart)

pub returns-in_err-answer-clause-searched : goal.returns-in_err-answer-clause-searched
returns-in_err-answer-clause-searched g c = searched_learned c.args.question.now.f.now c.args.self.now c.args.log.now
    c.solve.new.log c.in_err-answer.ensures.stop c.requires.definability

pub returns-clause-searched : goal.returns-clause-searched
returns-clause-searched g c =
    let question = c.args.question.now in
    let asked = c.args.asked.now in
    let p = c.args.self.now in
    let old = c.args.log.now in
    let new = c.solve.new.log in
    let active = c.in_ok-active.active.items in
    let both = two_joined c.deref.result.now c.deref-2.result.now asked.first.items asked.second.items
    c.in_ok-assume.assume.items c.deref-4.result.now c.deref.ensures.value c.deref-2.ensures.value
    c.in_ok-assume.ensures c.deref-4.ensures.value in
    on_answer c.in_ok-answer.answer
    (λ e. searched_learned question.f.now p old new (c.solve.ensures.sat (c.in_ok-answer.was ∙ ap Ok e)).0
    c.requires.definability)
    (λ id e.
    let refuted = c.solve.ensures.unsat id (c.in_ok-answer.was ∙ ap Ok e) in
    searched_refuted question.f.now p (assumed c.deref-3.result.now c.deref-4.result.now) old new id c.requires.definability
    refuted
    (refuted_grew c.derived_line_is_implied.ensures c.ids_stay.ensures c.reached_are_ids.ensures question.f.now
    question.places.now question.y question.conditions.now p active asked old new id
    c.requires.definability c.requires.posed.places_within c.requires.posed.places_copied c.in_ok-active.ensures c.requires.copied
    (g.met.O.Oracle.searched c.solve.new.self new c.solve.ensures.fit)
    (refuted_under old new c.deref-3.result.now active c.deref-4.result.now
    (asked.first.items ++ asked.second.items) id c.deref-3.ensures.value both refuted)))

pub returns-clause-unsat : goal.returns-clause-unsat
returns-clause-unsat g c = λ id is.
    let e : c.in_ok-answer.answer ≡ Unsat id = cc in
    let question = c.args.question.now in
    let asked = c.args.asked.now in
    let p = c.args.self.now in
    let old = c.args.log.now in
    let new = c.solve.new.log in
    let active = c.in_ok-active.active.items in
    let both = two_joined c.deref.result.now c.deref-2.result.now asked.first.items asked.second.items
    c.in_ok-assume.assume.items c.deref-4.result.now c.deref.ensures.value c.deref-2.ensures.value
    c.in_ok-assume.ensures c.deref-4.ensures.value in
    shows c.derived_line_is_implied.ensures c.ids_stay.ensures c.reached_are_ids.ensures question.f.now
    question.places.now question.y question.conditions.now p active asked old new id
    c.requires.definability c.requires.posed.places_within c.requires.posed.places_copied c.in_ok-active.ensures c.requires.copied
    (g.met.O.Oracle.searched c.solve.new.self new c.solve.ensures.fit)
    (refuted_under old new c.deref-3.result.now active c.deref-4.result.now
    (asked.first.items ++ asked.second.items) id c.deref-3.ensures.value both
    (c.solve.ensures.unsat id (c.in_ok-answer.was ∙ ap Ok e)))

pub returns-in_err-answer-clause-limit : goal.returns-in_err-answer-clause-limit
returns-in_err-answer-clause-limit g c = search (arith, some_limit)
