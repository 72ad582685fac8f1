use Rattle.std.proofs.Common.{refl, Ok, ap, ◌∙◌, arith}
use Rattle.oracle.proofs.SomeLimits.{some_limit}
use Rattle.oracle.specs.Calls.{assumed}
use Rattle.definability.proofs.SearchAnswers.{on_answer, refuted_under, searched_learned, searched_refuted}
use Rattle.definability.proofs.FirstCopySearch.{first_plain, shows_clause, first_grew}
use Rattle.definability.proofs.definability.Definability.search_first.Goals as goal

pub solve-requires-clause-plain : goal.solve-requires-clause-plain
solve-requires-clause-plain g c = first_plain c.args.log.now.entries c.args.asked.now c.requires.copies

pub returns-in_err-answer-clause-searched : goal.returns-in_err-answer-clause-searched
returns-in_err-answer-clause-searched g c = searched_learned c.args.f.now c.args.self.now c.args.log.now c.solve.new.log
    c.in_err-answer.ensures.stop c.requires.definability

pub returns-clause-searched : goal.returns-clause-searched
returns-clause-searched g c =
    let f = c.args.f.now in
    let p = c.args.self.now in
    let old = c.args.log.now in
    let new = c.solve.new.log in
    on_answer c.in_ok-answer.answer
    (λ e. searched_learned f p old new (c.solve.ensures.sat (c.in_ok-answer.was ∙ ap Ok e)).0 c.requires.definability)
    (λ id e.
    let refuted = c.solve.ensures.unsat id (c.in_ok-answer.was ∙ ap Ok e) in
    searched_refuted f p (assumed c.deref.result.now c.args.asked.now) old new id c.requires.definability refuted
    (first_grew c.derived_line_is_implied.ensures c.ids_stay.ensures c.reached_are_ids.ensures f p c.args.asked.now old
    new id c.requires.definability c.requires.copies (g.met.O.Oracle.searched c.solve.new.self new c.solve.ensures.fit)
    (refuted_under old new c.deref.result.now p.first.groups.items c.args.asked.now c.args.asked.now id
    c.deref.ensures.value refl refuted)))

pub returns-clause-unsat : goal.returns-clause-unsat
returns-clause-unsat g c = search (arith, shows_clause, refuted_under)

pub returns-in_err-answer-clause-limit : goal.returns-in_err-answer-clause-limit
returns-in_err-answer-clause-limit g c = search (arith, some_limit)
