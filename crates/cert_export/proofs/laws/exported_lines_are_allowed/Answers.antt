use Rattle.cert_export.proofs.AcceptedRefutations.{exported_lines_are_allowed}
use Rattle.cert_export.proofs.laws.exported_lines_are_allowed.Goals as goal

pub returns : goal.returns
returns c = exported_lines_are_allowed
