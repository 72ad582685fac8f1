use Rattle.std.proofs.Common.{arith}
use Rattle.cert_judge.proofs.CommentLines.{free_gives, read_judged, stop_free}
use Rattle.cert_judge.proofs.free_texts.free_text.Goals as goal

pub returns-in-Err-clause-gives : goal.returns-in-Err-clause-gives
returns-in-Err-clause-gives c = search (arith, stop_free)

pub returns-clause-lawful : goal.returns-clause-lawful
returns-clause-lawful c =
    read_judged c.circuit_or_first_fault.ensures.exact c.args.first c.args.lines c.in-Ok.parts.0 c.in-Ok.parts.1
    c.requires.lawful c.in-Ok.ensures.end

pub returns-clause-gives : goal.returns-clause-gives
returns-clause-gives c =
    free_gives c.circuit_or_first_fault.ensures.exact c.args.first c.args.lines c.in-Ok.parts.0 c.in-Ok.parts.1
    c.requires.lawful c.in-Ok.ensures.end c.requires.comment
