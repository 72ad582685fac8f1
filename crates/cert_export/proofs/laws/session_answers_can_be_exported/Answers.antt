use Rattle.cert_export.proofs.ExportableLogs.{session_answers}
use Rattle.cert_export.proofs.laws.session_answers_can_be_exported.Goals as goal

pub returns : goal.returns
returns c = session_answers
