use Rattle.std.proofs.Common.{arith}
use Rattle.cert_judge.proofs.CommentLines.{file_ends, read_judged, stop_ends}
use Rattle.cert_judge.proofs.endings.finish_circuit.Goals as goal

pub finish_file-requires-clause-judged : goal.finish_file-requires-clause-judged
finish_file-requires-clause-judged c =
    read_judged c.circuit_or_first_fault.ensures.exact c.args.first c.args.lines c.in-Ok.circuit c.in-Ok.symbols
    c.requires.lawful c.in-Ok.ensures.end

pub returns-in-Ok : goal.returns-in-Ok
returns-in-Ok c =
    file_ends c.args.f.now c.args.first c.args.lines c.in-Ok.circuit c.in-Ok.symbols c.finish_file.result
    c.requires.lawful c.in-Ok.ensures.end c.finish_file.ensures

pub returns-in-Err : goal.returns-in-Err
returns-in-Err c = search (arith, stop_ends)
