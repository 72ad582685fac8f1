use Rattle.std.proofs.Common.{◌≡◌, ◌++◌, drop}
use Rattle.proof_deletions.specs.Deletions.{deleting_from, lines_of, first_number, with_deletions}
use Rattle.proof_deletions.proofs.deletions.write_items.Given as goal

abbrev pub invariant-loop-place : goal.invariant-loop-place
invariant-loop-place l =
    l.items ++ deleting_from (first_number (lines_of l.lines)) (drop l.place (lines_of l.lines))
    ≡ with_deletions l.lines
