use Rattle.std.proofs.Common.{◌≡◌, ◌+◌, ◌++◌, drop}
use Rattle.proof_checker.specs.ClauseLiterals.{clause_literals}
use Rattle.proof_checker.proofs.tables.clause_literals.Given as goal

abbrev pub invariant-loop-j : goal.invariant-loop-j
invariant-loop-j l = l.all.items ++ clause_literals (l.first + l.j) (drop l.j l.f.matrix)
    ≡ clause_literals l.first l.f.matrix
