use Rattle.std.proofs.Common.{◌≡◌, ◌≤◌, take}
use Rattle.repair_loop.proofs.search_states.common_length.Given as goal

abbrev pub invariant-loop-at : goal.invariant-loop-at
invariant-loop-at l = (l.at ≤ l.shorter) × (take l.at l.xs ≡ take l.at l.ys)
