use Rattle.std.proofs.Common.{◌≤◌, None, length}
use Rattle.definability.proofs.RoomSteps.{IsLonger}
use Rattle.definability.proofs.frames.add_empty.Given as goal

abbrev pub invariant-loop : goal.invariant-loop
invariant-loop l = IsLonger None l.fn.frames.items l.frames.items × (l.counter ≤ length l.frames.items)
