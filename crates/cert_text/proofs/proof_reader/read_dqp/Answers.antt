use Rattle.std.proofs.Common.{rules}
use Rattle.cert_text.specs.CircuitProof.{circuit_proof_of}
use Rattle.cert_text.specs.Lines.{IsReading}
use Rattle.cert_text.proofs.SpelledProofs.{reading_allowed}
use Rattle.cert_text.proofs.proof_reader.read_dqp.Goals as goal

pub returns-clause-allowed : goal.returns-clause-allowed
returns-clause-allowed c =
    let read : IsReading (circuit_proof_of c.args.f.now c.args.c.now c.args.bytes.now c.args.first)
    c.read_proof_lines.result = search rules in
    reading_allowed c.args.bytes.now c.args.first c.args.f.now c.args.c.now c.read_proof_lines.result read
