use Rattle.std.proofs.Common.{◌+◌, get_or, reverse}
use Rattle.hint_log.proofs.ReachedIds.{AreReachedSoFar}
use Rattle.hint_log.proofs.logs.Log.reached.Given as goal

abbrev pub invariant-loop-at : goal.invariant-loop-at
invariant-loop-at l = AreReachedSoFar l.self.entries l.id l.pending (reverse l.reached.items)

abbrev pub decreases-loop-at : goal.decreases-loop-at
decreases-loop-at l = get_or (reverse l.reached.items) 0 (l.id + 1)
