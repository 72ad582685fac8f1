use Rattle.std.proofs.Common.{◌≡◌, ◌+◌, ◌<◌, sym, ◌∙◌, ap, arith}
use Rattle.dq_text.specs.Line.{TextLine, lines_from}
use Rattle.dq_text.specs.TextLine.{text_line}
use Rattle.cert_text.specs.Scan.{row_lines}
use Rattle.cert_text.proofs.ReadLines.{line_missing, line_at_fault, line_read, refused_at, stopped}
use Rattle.cert_text.proofs.row_lists.take_rows.Goals as goal

pub returns-in_default : goal.returns-in_default
returns-in_default c = search (arith, refused_at, line_missing)

pub returns-in-Err : goal.returns-in-Err
returns-in-Err c =
    let behind = c.next.new.self in
    let line : TextLine = text_line c.in-Some.line behind.rest in
    let more : c.loop-k.k < c.args.count = omega (arith, c.loop-k-test.true) in
    stopped _ line.number _ c.in-Err.stop c.at_line.result c.loop-k.rows behind c.in-Err.ensures c.at_line.ensures
    (λ name fault. c.loop-k.invariant
    ∙ line_at_fault (row_lines c.args.universals.variables.now) tt c.loop-k.k c.args.count c.loop-k.rows
    c.loop-k.lines line
    (lines_from behind.number behind.rest) name more
    c.in-Some.ensures.line fault)

pub loop-k-preserved : goal.loop-k-preserved
loop-k-preserved c =
    let behind = c.next.new.self in
    let line : TextLine = text_line c.in-Some.line behind.rest in
    let more : c.loop-k.k < c.args.count = omega (arith, c.loop-k-test.true) in
    let next : behind.number ≡ line.number + 1 = c.in-Some.ensures.next_number ∙ ap (λ n. n + 1)
    (sym c.in-Some.ensures.number) in
    c.loop-k.invariant
    ∙ line_read (row_lines c.args.universals.variables.now) tt c.loop-k.k c.args.count c.loop-k.rows
    c.loop-k.lines behind line
    c.in-Ok.row c.push.new.self more
    c.in-Some.ensures.line next c.in-Ok.ensures c.in_ok-push-in-Ok.ensures.ok
