use Rattle.std.proofs.Common.{◌≡◌, ◌+◌, ◌-◌, ◌<◌, sym, ◌∙◌, ap, arith}
use Rattle.dq_text.specs.Line.{TextLine, line_tokens, lines_from}
use Rattle.dq_text.specs.TextLine.{text_line}
use Rattle.cert_text.specs.DefinitionLine.{definition_gate, definition_gates}
use Rattle.cert_text.specs.Lines.{put_behind, read_from}
use Rattle.cert_text.proofs.ReadLines.{line_missing, line_at_fault, line_read, refused_at}
use Rattle.cert_text.proofs.definition_reader.take_gates.Goals as goal

pub returns-in_default : goal.returns-in_default
returns-in_default c = search (arith, refused_at, line_missing)

pub returns-in-Err : goal.returns-in-Err
returns-in-Err c =
    let behind = c.next.new.self in
    let line : TextLine = text_line c.in-Some.line behind.rest in
    let more : c.loop-k.k < c.args.count = omega (arith, c.loop-k-test.true) in
    refused_at _ _ c.refused-in-Err.result c.loop-k.gates.items behind c.refused-in-Err.ensures
    (c.loop-k.invariant
    ∙ line_at_fault (definition_gates c.args.f.now) (c.args.f.now.variables + 1 + c.loop-k.k) c.loop-k.k c.args.count
    c.loop-k.gates.items c.loop-k.lines line (lines_from behind.number behind.rest) c.in-Err.name more
    c.in-Some.ensures.line
    (ap (λ n. definition_gate c.args.f.now (n + 1 + c.loop-k.k) (line_tokens c.in-Some.line.text.now))
    (sym c.vars.ensures.value)
    ∙ sym c.in-Err.ensures))

pub loop-k-preserved : goal.loop-k-preserved
loop-k-preserved c =
    let behind = c.next.new.self in
    let line : TextLine = text_line c.in-Some.line behind.rest in
    let more : c.loop-k.k < c.args.count = omega (arith, c.loop-k-test.true) in
    let next : behind.number ≡ line.number + 1 = c.in-Some.ensures.next_number ∙ ap (λ n. n + 1)
    (sym c.in-Some.ensures.number) in
    let place : c.args.f.now.variables + 1 + c.loop-k.k + 1 ≡ c.args.f.now.variables + 1 + (c.loop-k.k + 1) =
    omega arith in
    c.loop-k.invariant
    ∙ line_read (definition_gates c.args.f.now) (c.args.f.now.variables + 1 + c.loop-k.k) c.loop-k.k c.args.count
    c.loop-k.gates.items c.loop-k.lines behind line c.in-Ok.gate c.push_gate.new.gates.items more
    c.in-Some.ensures.line next
    (ap (λ n. definition_gate c.args.f.now (n + 1 + c.loop-k.k) (line_tokens c.in-Some.line.text.now))
    (sym c.vars.ensures.value)
    ∙ sym c.in-Ok.ensures)
    c.in_ok-push_gate-in-Ok.ensures
    ∙ ap (λ at. put_behind c.push_gate.new.gates.items (read_from (definition_gates c.args.f.now) at
    (c.args.count - (c.loop-k.k + 1)) behind)) place
