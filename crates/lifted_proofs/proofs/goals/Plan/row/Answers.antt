use Rattle.std.proofs.Common.{arith}
use Rattle.std.proofs.lemmas.Option.{slice_get_read}
use Rattle.lifted_proofs.proofs.goals.Plan.row.Goals as goal

pub returns-clause-at : goal.returns-clause-at
returns-clause-at c = search (arith, slice_get_read)

pub returns-clause-whole : goal.returns-clause-whole
returns-clause-whole c = search arith
