use Rattle.std.proofs.Common.{◌≡◌, not, map, filter, take}
use Rattle.dq_lits.specs.Literal.{opposite, same_literal}
use Rattle.gate_definitions.proofs.clauses.premises.Given as goal

abbrev pub invariant-loop-k : goal.invariant-loop-k
invariant-loop-k l = l.cube.items ≡ map opposite (filter (λ k. not (same_literal k l.l)) (take l.k-index l.clause))
