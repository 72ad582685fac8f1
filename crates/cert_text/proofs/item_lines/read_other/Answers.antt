use Rattle.std.proofs.Common.{◌≤◌, subst}
use Rattle.dq_text.specs.Line.{line_tokens}
use Rattle.cert_text.specs.Grammar.{SpellsStep, IsStep}
use Rattle.cert_text.specs.LineIds.{numbering}
use Rattle.cert_text.specs.PlainStep.{read_step}
use Rattle.cert_text.specs.Variables.{is_variable}
use Rattle.cert_text.proofs.PlainItems.{plain_item}
use Rattle.cert_text.proofs.PlainSteps.{if_some}
use Rattle.cert_text.proofs.item_lines.read_other.Goals as goal

pub returns-in_ok-push-in-Some-clause-item : goal.returns-in_ok-push-in-Some-clause-item
returns-in_ok-push-in-Some-clause-item c =
    let tokens = line_tokens c.args.line.now in
    let ls = c.take_plain_step.new.literals.items in
    let hs = c.take_plain_step.new.hints.items in
    let found = c.in_ok-plain.plain in
    let id = c.in-Some.id in
    let p = is_variable c.args.variables in
    plain_item c.args.variables (numbering c.args.ids.now) tokens id ls hs
    (if_some found id (λ id. 1 ≤ id) c.in-Some.is c.in_ok-plain.ensures.some)
    (if_some found id (λ id. SpellsStep tokens (read_step id ls hs)) c.in-Some.is c.in_ok-plain.ensures.spelled)
    (subst (λ next. IsStep p next (read_step id ls hs)) c.next.ensures
    (if_some found id (λ id. IsStep p c.next.result (read_step id ls hs)) c.in-Some.is c.in_ok-plain.ensures.lawful))
