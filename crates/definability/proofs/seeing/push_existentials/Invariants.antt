use Rattle.std.proofs.Common.{◌≡◌, ◌+◌, ◌++◌, take, map, length}
use Rattle.definability.proofs.seeing.push_existentials.Given as goal

abbrev pub invariant-loop-place : goal.invariant-loop-place
invariant-loop-place l = l.places.items ≡ l.fn.places.items ++ map (λ k. length l.f.universals + k)
    (take l.place-index l.more)
