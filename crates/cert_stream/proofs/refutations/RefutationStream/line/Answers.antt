use Rattle.std.proofs.Common.{◌∷◌, ap, subst}
use Rattle.cert_stream.specs.KeptLines.{seen}
use Rattle.cert_stream.specs.RefutationLines.{RefutationLines}
use Rattle.cert_stream.specs.RefutationInside.{state_in}
use Rattle.cert_stream.specs.RefutationState.{AnswersLines, MayAnswer, RefutationState}
use Rattle.cert_stream.proofs.StreamAnswers.{answers_going, if_none_holds, none_stopped, read_on, stopped_back, unless_failed}
use Rattle.cert_stream.proofs.refutations.RefutationStream.line.Goals as goal

pub returns-in-Err-clause-answer : goal.returns-in-Err-clause-answer
returns-in-Err-clause-answer c behind lines answer says =
    let i = c.self.inside in
    let text = c.args.text.now in
    let after : RefutationState = record { lines = c.line.new.self; proving = i.proving; failed = i.failed } in
    let stopped = subst (λ o. AnswersLines (seen c.line.new.self) i.proving o lines answer)
    (ap (λ (r : RefutationLines). r.stopped) c.in-Err.ensures.stops)
    (answers_going i.failed after lines answer c.if-self.false says) in
    subst (λ (s : RefutationState). MayAnswer s (record {
      text = text;
      number = s.lines.number;
      behind = behind;
    } ∷ lines) answer) c.self.view_is
    (unless_failed i.failed (state_in i) _ answer c.if-self.false
    (stopped_back c.refutations_are_read_by_line.ensures.line i.lines i.proving text (seen c.line.new.self)
    c.in-Err.field-0 i.lines.stopped c.in-Err.ensures.line c.in-Err.ensures.stopped behind lines answer stopped))

pub returns-in-Ok-judge_item-clause-answer : goal.returns-in-Ok-judge_item-clause-answer
returns-in-Ok-judge_item-clause-answer c behind lines answer says =
    let i = c.self.inside in
    let text = c.args.text.now in
    let new = c.line.new.self in
    let after : RefutationState = record { lines = new; proving = c.judge_item.new.proving; failed = i.failed } in
    let none = none_stopped i.lines.stopped c.in-Ok.ensures.stopped in
    subst (λ (s : RefutationState). MayAnswer s (record {
      text = text;
      number = s.lines.number;
      behind = behind;
    } ∷ lines) answer) c.self.view_is
    (unless_failed i.failed (state_in i) _ answer c.if-self.false
    (read_on c.refutations_are_read_by_line.ensures.line i.lines new i.proving c.judge_item.new.proving text none
    (if_none_holds i.lines.stopped _ none c.in-Ok.ensures.line) c.in-Ok.ensures.item c.in-Ok-judge_item.ensures behind
    lines answer (answers_going i.failed after lines answer c.if-self.false says)))
