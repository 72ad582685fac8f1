use Rattle.std.proofs.Common.{arith}
use Rattle.cert_text.proofs.ReadBodies.{handed_on, proof_stop, whole_proof}
use Rattle.cert_text.proofs.proof_reader.read_proof_lines.Goals as goal

pub returns-in_err-items : goal.returns-in_err-items
returns-in_err-items c = search (arith, handed_on, proof_stop)

pub returns : goal.returns
returns c = search (arith, whole_proof)
