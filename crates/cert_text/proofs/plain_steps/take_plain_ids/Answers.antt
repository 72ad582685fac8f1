use Rattle.std.proofs.Common.{◌≤◌, ◌-◌, ◌^◌, length, arith}
use Rattle.dq_text.specs.Line.{line_tokens}
use Rattle.cert_text.specs.PlainStep.{HintsTaken}
use Rattle.cert_text.proofs.PlainItems.{plain_ids}
use Rattle.cert_text.proofs.PlainSteps.{if_some}
use Rattle.cert_text.proofs.plain_steps.take_plain_ids.Goals as goal

pub returns : goal.returns
returns c ended =
    let tokens = line_tokens c.args.line.now in
    let left = line_tokens c.in-Some.behind.now in
    let ids = c.take_hints.new.hints.items in
    let taken = if_some c.in_ok-behind.field-0 c.in-Some.behind (λ rest. HintsTaken (2 ^ 64 - 1) tokens (line_tokens rest.now) ids)
    c.in-Some.is c.in_ok-behind.ensures in
    let some : 1 ≤ length ids = search (arith) in
    plain_ids tokens left ids (2 ^ 64 - 1) taken (c.ends.ensures ended) some
