use Rattle.cert_export.proofs.ExportedAnswers.{exported_answer_is_accepted}
use Rattle.cert_export.proofs.laws.exported_answer_is_accepted.Goals as goal

pub returns : goal.returns
returns c = exported_answer_is_accepted
