use Rattle.proof_deletions.proofs.NumberedLines.{allowed_are_numbered}
use Rattle.proof_deletions.proofs.laws.allowed_lines_are_numbered.Goals as goal

pub returns : goal.returns
returns c = allowed_are_numbered
