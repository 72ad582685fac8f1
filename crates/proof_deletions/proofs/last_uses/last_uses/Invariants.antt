use Rattle.std.proofs.Common.{length, take}
use Rattle.proof_deletions.specs.Deletions.{lines_of}
use Rattle.proof_deletions.specs.LastUses.{AreLastUses}
use Rattle.proof_deletions.proofs.last_uses.last_uses.Given as goal

abbrev pub invariant-loop-place : goal.invariant-loop-place
invariant-loop-place l = AreLastUses l.first (take l.place (lines_of l.lines)) (length l.lines) l.table.items
