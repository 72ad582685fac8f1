use Rattle.std.proofs.Common.{arith}
use Rattle.cert_judge.proofs.Starts.{circuit_starts, circuit_refused}
use Rattle.cert_judge.proofs.beginnings.start_circuit.Goals as goal

pub returns-in-Ok : goal.returns-in-Ok
returns-in-Ok c =
    search (
      arith,
      (circuit_starts c.circuit_or_first_fault.ensures.exact c.args.first c.new-lines.result c.line.new.self c.args.header.now c.requires.early c.new-lines.ensures c.requires.one_line c.in-Ok.ensures.line c.in-Ok.ensures.going),
    )

pub returns-in-Err : goal.returns-in-Err
returns-in-Err c = search (arith, circuit_refused)
