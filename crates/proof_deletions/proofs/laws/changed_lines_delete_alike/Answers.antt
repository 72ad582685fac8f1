use Rattle.proof_deletions.proofs.NumberedLines.{changed_alike}
use Rattle.proof_deletions.proofs.laws.changed_lines_delete_alike.Goals as goal

pub returns : goal.returns
returns c = changed_alike
