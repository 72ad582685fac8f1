use Rattle.cert_export.proofs.AcceptedRefutations.{exported_answer_refutes}
use Rattle.cert_export.proofs.laws.exported_answer_refutes.Goals as goal

pub returns : goal.returns
returns c = exported_answer_refutes
