use Rattle.std.proofs.Common.{[], subst}
use Rattle.std.specs.Prelude.{IfNone}
use Rattle.cert_text.specs.Lines.{IsReading}
use Rattle.cert_stream.specs.KeptLines.{KeptProofLines, proof_seen}
use Rattle.cert_stream.specs.ProofLines.{lines_give, whole_of}
use Rattle.cert_stream.proofs.KeptBodies.{if_none}
use Rattle.cert_stream.proofs.proofs_by_line.DqpLines.end.Goals as goal

pub returns-clause-end : goal.returns-clause-end
returns-clause-end c =
    let lines = c.self.inside in
    subst (λ (l : KeptProofLines). IfNone l.stopped (IsReading (whole_of (lines_give (proof_seen l) []))
    c.finish.result)) c.self.view_is
    (if_none lines.stopped _ (c.finish.ensures lines.last_variable lines.first_id))
