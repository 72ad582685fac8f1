use Rattle.std.proofs.Common.{sym, ◌∙◌, arith}
use Rattle.cert_judge.proofs.CircuitSteps.{goes_back, still_lines, stop_taken}
use Rattle.cert_judge.proofs.comments.take_circuit_line.Goals as goal

pub returns-in-Ok : goal.returns-in-Ok
returns-in-Ok c = search (arith, still_lines, goes_back)

pub returns-in_ok-stop_circuit-in-Err : goal.returns-in_ok-stop_circuit-in-Err
returns-in_ok-stop_circuit-in-Err c =
    search (
      arith,
      (stop_taken c.args.f.now c.args.lines.now c.args.line.now c.line.new.self c.in-Err.stop c.in_ok-stop_circuit-in-Err.field-0.value c.requires.one_line (sym c.in_comment.ensures.comment ∙ c.if-in_comment.false) c.requires.lawful.reads c.in-Err.ensures.line c.in_ok-stop_circuit-in-Err.ensures),
    )
