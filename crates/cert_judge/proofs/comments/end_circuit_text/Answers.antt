use Rattle.std.proofs.Common.{None}
use Rattle.cert_judge.proofs.CommentLines.{comment_follows, ok_follows, read_judged}
use Rattle.cert_judge.proofs.comments.end_circuit_text.Goals as goal

pub begin_comment-requires-clause-judged : goal.begin_comment-requires-clause-judged
begin_comment-requires-clause-judged c =
    read_judged c.circuit_or_first_fault.ensures.exact c.args.first c.args.lines c.in-Ok.parts.0 c.in-Ok.parts.1
    c.requires.lawful c.in-Ok.ensures.end

pub returns-clause-follows : goal.returns-clause-follows
returns-clause-follows c =
    let f = c.args.f.now in
    let number = c.number-number.result in
    let text = c.args.line.now in
    ok_follows f c.args.lines c.args.first number
    (record { circuit = c.in-Ok.parts.0; symbols = c.in-Ok.parts.1; comment = None }) text c.begin_comment.result
    (λ phase. comment_follows c.circuit_or_first_fault.ensures.exact c.args.first c.args.lines c.in-Ok.parts.0
    c.in-Ok.parts.1 c.requires.lawful c.in-Ok.ensures.end f number text phase c.requires.comment
    c.number-number.ensures)
    c.begin_comment.ensures.begins
