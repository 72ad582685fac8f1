use Rattle.std.proofs.Common.{◌≡◌, take}
use Rattle.dq_verdicts.proofs.prepared.same_clauses.Given as goal

abbrev pub invariant-loop-place : goal.invariant-loop-place
invariant-loop-place l = take l.place l.f.matrix ≡ take l.place l.g.matrix
