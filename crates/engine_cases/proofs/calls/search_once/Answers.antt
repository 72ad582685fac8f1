use Rattle.std.proofs.Common.{◌∙◌, ap, Ok}
use Rattle.list_laws.proofs.Results.{on_err}
use Rattle.oracle.specs.Calls.{assumed}
use Rattle.engine_cases.proofs.MadeVariables.{made_learned, made_answered, refuted_id, groups_stay, plain_stays}
use Rattle.engine_cases.proofs.calls.search_once.Goals as goal

pub returns-in_err-answer-clause-made : goal.returns-in_err-answer-clause-made
returns-in_err-answer-clause-made g c = made_learned c.args.made.now c.args.log.now c.solve.new.log
    c.in_err-answer.ensures.stop c.requires.made

pub returns-clause-made : goal.returns-clause-made
returns-clause-made g c =
    made_answered c.args.made.now c.args.log.now c.solve.new.log
    (assumed c.args.active.now c.args.assume.now) c.in_ok-answer.answer c.requires.made
    (λ is. (c.solve.ensures.sat (c.in_ok-answer.was ∙ ap (λ f. Ok f) is)).0)
    (λ id is. c.solve.ensures.unsat id (c.in_ok-answer.was ∙ ap (λ f. Ok f) is))

pub returns-clause-id : goal.returns-clause-id
returns-clause-id g c = λ id is.
    refuted_id c.args.log.now c.solve.new.log (assumed c.args.active.now c.args.assume.now) id
    (c.solve.ensures.unsat id (c.in_ok-answer.was ∙ is))

pub returns-in_err-answer-clause-groups : goal.returns-in_err-answer-clause-groups
returns-in_err-answer-clause-groups g c = on_err _ (groups_stay c.args.log.now c.solve.new.log
    c.args.active.now c.in_err-answer.ensures.stop c.requires.groups)

pub returns-in_err-answer-clause-plain : goal.returns-in_err-answer-clause-plain
returns-in_err-answer-clause-plain g c = on_err _ (plain_stays c.args.log.now c.solve.new.log
    c.args.assume.now c.in_err-answer.ensures.stop c.requires.plain)
