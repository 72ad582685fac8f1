use Rattle.std.proofs.Common.{◌≡◌, ℕ, ◌+◌, ◌-◌, ◌<◌, sym, ◌∙◌, ap, arith}
use Rattle.dq_lits.specs.Derivation.{ProofStep}
use Rattle.dq_text.specs.Line.{TextLine, lines_from}
use Rattle.dq_text.specs.TextLine.{text_line}
use Rattle.cert_text.specs.ItemLine.{step_lines}
use Rattle.cert_text.specs.Lines.{Format, put_behind, read_from}
use Rattle.cert_text.specs.PlainStep.{read_step}
use Rattle.cert_text.specs.Variables.{is_variable}
use Rattle.cert_text.proofs.DefinitionParts.{step_stop}
use Rattle.cert_text.proofs.ReadLines.{line_missing, line_at_fault, line_read, refused_at, stopped}
use Rattle.cert_text.proofs.definition_reader.take_steps.Goals as goal

pub returns-in_default : goal.returns-in_default
returns-in_default c = search (arith, refused_at, line_missing)

pub returns-in-Err : goal.returns-in-Err
returns-in-Err c =
    let F : Format ℕ ProofStep = step_lines (is_variable c.args.variables) in
    let behind = c.next.new.self in
    let line : TextLine = text_line c.in-Some.line behind.rest in
    let more : c.loop-k.k < c.args.count = omega (arith, c.loop-k-test.true) in
    let buffers = c.read_step.new.buffers in
    stopped _ line.number _ c.in-Err.stop c.at_line.result c.loop-k.steps behind
    (step_stop _ c.in-Err.stop buffers.literals.items buffers.hints.items c.in-Err.ensures) c.at_line.ensures
    (λ name fault. c.loop-k.invariant
    ∙ line_at_fault F (c.args.first + c.loop-k.k) c.loop-k.k c.args.count c.loop-k.steps c.loop-k.lines line
    (lines_from behind.number behind.rest) name more c.in-Some.ensures.line fault)

pub loop-k-preserved : goal.loop-k-preserved
loop-k-preserved c =
    let F : Format ℕ ProofStep = step_lines (is_variable c.args.variables) in
    let behind = c.next.new.self in
    let line : TextLine = text_line c.in-Some.line behind.rest in
    let more : c.loop-k.k < c.args.count = omega (arith, c.loop-k-test.true) in
    let next : behind.number ≡ line.number + 1 = c.in-Some.ensures.next_number ∙ ap (λ n. n + 1)
    (sym c.in-Some.ensures.number) in
    let place : c.args.first + c.loop-k.k + 1 ≡ c.args.first + (c.loop-k.k + 1) = omega arith in
    let buffers = c.read_step.new.buffers in
    c.loop-k.invariant
    ∙ line_read F (c.args.first + c.loop-k.k) c.loop-k.k c.args.count c.loop-k.steps c.loop-k.lines behind line
    (read_step c.in-Ok.id buffers.literals.items buffers.hints.items) c.push_step.new.steps more
    c.in-Some.ensures.line next c.in-Ok.ensures c.in_ok-push_step-in-Ok.ensures
    ∙ ap (λ at. put_behind c.push_step.new.steps (read_from F at (c.args.count - (c.loop-k.k + 1)) behind)) place
