use Rattle.std.proofs.Common.{◌≡◌, map, take}
use Rattle.repair_loop.proofs.search_states.live_numbers.Given as goal

abbrev pub invariant-loop-l : goal.invariant-loop-l
invariant-loop-l l = l.numbers.items ≡ map (λ k. k.clause) (take l.l-index l.live)
