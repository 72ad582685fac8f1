use Rattle.proof_deletions.proofs.SameFaults.{lines_same}
use Rattle.proof_deletions.proofs.laws.deletions_change_no_fault.Goals as goal

pub returns : goal.returns
returns c = lines_same c.unused_ids_may_go.ensures
