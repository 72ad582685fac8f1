use Rattle.cert_export.proofs.ExportedAnswers.{exported_proof_is_allowed}
use Rattle.cert_export.proofs.laws.exported_proof_is_allowed.Goals as goal

pub returns : goal.returns
returns c = exported_proof_is_allowed
