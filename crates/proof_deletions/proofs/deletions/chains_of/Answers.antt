use Rattle.std.proofs.Common.{arith}
use Rattle.std.proofs.lemmas.Grind.{get_or_default_zero}
use Rattle.proof_deletions.specs.Deletions.{lines_of}
use Rattle.proof_deletions.proofs.NumberedLines.{as_many}
use Rattle.proof_deletions.proofs.SpentIds.{use_at_most}
use Rattle.proof_deletions.proofs.deletions.chains_of.Goals as goal

pub new-requires : goal.new-requires
new-requires c k d below =
    let are = c.in_ok-table.ensures in
    let steps = lines_of c.args.lines.now in
    let many = are.many in
    let lines = as_many c.args.lines.now c.requires.lines in
    let here = are.each k (omega (arith, many, below)) in
    let few = use_at_most c.args.first steps k in
    let same = get_or_default_zero c.in_ok-table.table.items k d below in
    omega (arith, here, few, same, many, lines)
