use Rattle.std.proofs.Common.{◌≡◌, ◌++◌, map, take}
use Rattle.proof_checker.proofs.tables.push_literals.Given as goal

abbrev pub invariant-loop-l : goal.invariant-loop-l
invariant-loop-l l = l.all.items ≡ l.fn.all.items ++ map (λ k. (l.bad, k)) (take l.l-index l.clause)
