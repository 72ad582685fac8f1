use Rattle.std.proofs.Common.{arith}
use Rattle.cert_judge.proofs.BinaryAnswers.{goes_back, still_lines, stop_taken}
use Rattle.cert_judge.proofs.binary.take_binary_line.Goals as goal

pub returns-in-Ok : goal.returns-in-Ok
returns-in-Ok c = search (arith, still_lines, goes_back)

pub returns-in_ok-stop_circuit-in-Err : goal.returns-in_ok-stop_circuit-in-Err
returns-in_ok-stop_circuit-in-Err c =
    search (
      arith,
      (stop_taken c.args.f.now c.args.first c.args.lines.now c.line.new.self c.args.line.now c.args.ended c.requires.one_line c.in-Err.stop c.in_ok-stop_circuit-in-Err.field-0.value c.in-Err.ensures.line c.in_ok-stop_circuit-in-Err.ensures),
    )
