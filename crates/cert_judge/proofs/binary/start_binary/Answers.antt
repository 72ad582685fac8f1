use Rattle.std.proofs.Common.{arith}
use Rattle.cert_judge.proofs.BinaryAnswers.{binary_refused, binary_starts}
use Rattle.cert_judge.proofs.binary.start_binary.Goals as goal

pub returns-in-Ok : goal.returns-in-Ok
returns-in-Ok c =
    binary_starts c.args.first c.args.header.now c.requires.one_line c.requires.early c.in-Ok.lines
    c.in-Ok.ensures.begins c.in-Ok.ensures.ready c.in-Ok.ensures.header_line

pub returns-in-Err : goal.returns-in-Err
returns-in-Err c = search (arith, binary_refused)
