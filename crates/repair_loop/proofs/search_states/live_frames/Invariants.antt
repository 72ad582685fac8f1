use Rattle.std.proofs.Common.{◌≡◌, map, take}
use Rattle.repair_loop.proofs.search_states.live_frames.Given as goal

abbrev pub invariant-loop-l : goal.invariant-loop-l
invariant-loop-l l = l.frames.items ≡ map (λ k. k.frame) (take l.l-index l.live)
