use Rattle.std.proofs.Common.{◌≤◌, length}
use Rattle.definability.proofs.RoomSteps.{IsLonger}
use Rattle.definability.proofs.frames.add_zeros.Given as goal

abbrev pub invariant-loop : goal.invariant-loop
invariant-loop l = IsLonger 0 l.fn.given.items l.given.items × (l.counter ≤ length l.given.items)
