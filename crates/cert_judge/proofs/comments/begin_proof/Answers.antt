use Rattle.std.proofs.Common.{arith}
use Rattle.cert_judge.proofs.CommentLines.{proof_begins, proof_takes}
use Rattle.cert_judge.proofs.comments.begin_proof.Goals as goal

pub returns-clause-begins : goal.returns-clause-begins
returns-clause-begins c ended behind answer last says = search (arith, proof_begins, proof_takes)
