use Rattle.std.proofs.Common.{◌≤◌}
use Rattle.dq_text.specs.Line.{line_tokens}
use Rattle.cert_text.specs.Grammar.{SpellsStep, IsStep}
use Rattle.cert_text.specs.PlainStep.{read_step}
use Rattle.cert_text.specs.Variables.{is_variable}
use Rattle.cert_text.proofs.PlainSteps.{if_some, plain_read}
use Rattle.cert_text.proofs.step_lines.read_step.Goals as goal

pub returns-in-Some : goal.returns-in-Some
returns-in-Some c =
    let tokens = line_tokens c.args.line.now in
    let ls = c.take_plain_step.new.literals.items in
    let hs = c.take_plain_step.new.hints.items in
    let found = c.in_ok-plain.plain in
    let id = c.in-Some.id in
    plain_read c.args.variables c.args.next tokens id ls hs
    (if_some found id (λ id. 1 ≤ id) c.in-Some.is c.in_ok-plain.ensures.some)
    (if_some found id (λ id. SpellsStep tokens (read_step id ls hs)) c.in-Some.is c.in_ok-plain.ensures.spelled)
    (if_some found id (λ id. IsStep (is_variable c.args.variables) c.args.next (read_step id ls hs)) c.in-Some.is
    c.in_ok-plain.ensures.lawful)
