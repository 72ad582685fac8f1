use Rattle.std.proofs.Common.{take}
use Rattle.proof_deletions.specs.LastUses.{AreNoted}
use Rattle.proof_deletions.proofs.last_uses.note_hints.Given as goal

abbrev pub invariant-loop-hint : goal.invariant-loop-hint
invariant-loop-hint l = AreNoted l.first l.place (take l.hint-index l.hints) l.initial.table.items l.table.items
