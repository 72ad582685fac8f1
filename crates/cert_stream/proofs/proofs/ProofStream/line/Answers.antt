use Rattle.std.proofs.Common.{◌≡◌, ◌∷◌, Ok, ◌∙◌, ap, subst}
use Rattle.cert_stream.specs.KeptLines.{proof_seen}
use Rattle.cert_stream.specs.ProofLines.{ProofLines, with_line}
use Rattle.cert_stream.specs.ProofInside.{proof_state_in}
use Rattle.cert_stream.specs.ProofState.{AnswersLines, MayAnswer, ProofState, run_in}
use Rattle.cert_stream.proofs.ProofAnswers.{answers_going, read_on, stopped_back, unless_failed}
use Rattle.cert_stream.proofs.ProofLineSteps.{same_first, same_variables, step_of}
use Rattle.cert_stream.proofs.StreamAnswers.{if_none_holds, none_stopped}
use Rattle.cert_stream.proofs.proofs.ProofStream.line.Goals as goal

pub judge_proof_item-requires : goal.judge_proof_item-requires
judge_proof_item-requires c =
    let i = c.self.inside in
    let old = proof_seen i.lines in
    let new = proof_seen c.line.new.self in
    let text = c.args.text.now in
    let none = none_stopped i.lines.stopped c.in-Ok.ensures.stopped in
    let read : with_line old text ≡ Ok new = if_none_holds i.lines.stopped _ none c.in-Ok.ensures.line in
    let step = step_of old new text read in
    record {
      old = old;
      behind = record { text = text; read = read; may_come = c.in-Ok.ensures.item };
      lines = record {
        variables = same_variables old new text step ∙ c.self.invariant.lines.variables;
        first = same_first old new text step ∙ c.self.invariant.lines.first;
      };
      judging = if_none_holds i.lines.stopped _ none (c.self.invariant.judging c.if-self.false);
    }

pub returns-in-Err-clause-answer : goal.returns-in-Err-clause-answer
returns-in-Err-clause-answer c behind lines answer says =
    let i = c.self.inside in
    let text = c.args.text.now in
    let new = c.line.new.self in
    let after : ProofState = record (proof_state_in i) { lines = new } in
    let stopped = subst (λ o. AnswersLines (proof_seen new) (run_in after) o lines answer)
    (ap (λ (r : ProofLines). r.stopped) c.in-Err.ensures.stops)
    (answers_going i.failed after lines answer c.if-self.false says) in
    subst (λ (s : ProofState). MayAnswer s (record {
      text = text;
      number = s.lines.number;
      behind = behind;
    } ∷ lines) answer) c.self.view_is
    (unless_failed i.failed (proof_state_in i) _ answer c.if-self.false
    (stopped_back c.proofs_are_read_by_line.ensures.line i.lines (run_in (proof_state_in i)) text (proof_seen new)
    c.in-Err.field-0 i.lines.stopped c.in-Err.ensures.line c.in-Err.ensures.stopped behind lines answer stopped))

pub returns-in-Ok-judge_proof_item-clause-answer : goal.returns-in-Ok-judge_proof_item-clause-answer
returns-in-Ok-judge_proof_item-clause-answer c behind lines answer says =
    let i = c.self.inside in
    let text = c.args.text.now in
    let new = c.line.new.self in
    let after : ProofState = record (proof_state_in i) {
      lines = new;
      proving = c.judge_proof_item.new.proving;
    } in
    let none = none_stopped i.lines.stopped c.in-Ok.ensures.stopped in
    subst (λ (s : ProofState). MayAnswer s (record {
      text = text;
      number = s.lines.number;
      behind = behind;
    } ∷ lines) answer) c.self.view_is
    (unless_failed i.failed (proof_state_in i) _ answer c.if-self.false
    (read_on c.proofs_are_read_by_line.ensures.line i.lines new (run_in (proof_state_in i)) (run_in after) text none
    (if_none_holds i.lines.stopped _ none c.in-Ok.ensures.line) c.in-Ok-judge_proof_item.ensures.run behind lines
    answer (answers_going i.failed after lines answer c.if-self.false says)))
