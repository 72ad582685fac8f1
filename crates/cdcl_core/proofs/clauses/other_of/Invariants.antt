use Rattle.std.proofs.Common.{◌≡◌, true, take}
use Rattle.dq_lits.specs.Literal.{Literal}
use Rattle.dq_lits.specs.Derivation.{holds}
use Rattle.cdcl_core.proofs.clauses.other_of.Given as goal

abbrev pub invariant-loop-k : goal.invariant-loop-k
invariant-loop-k l = (x : Literal) → holds (take l.k-index l.lits) x ≡ true → x ≡ l.l
