use Rattle.cert_export.proofs.ExportableLogs.{productive_answers}
use Rattle.cert_export.proofs.laws.productive_answers_can_be_exported.Goals as goal

pub returns : goal.returns
returns c = productive_answers
