use Rattle.std.proofs.Common.{◌≡◌, ◌<◌, ℕ, true, [], get_or}
use Rattle.dq_lits.specs.Literal.{clause_true}
use Rattle.hint_log.specs.Naming.{round_assignment}
use Rattle.circuit_cnf.proofs.failures.false_clause.Given as goal

abbrev pub invariant-loop-j : goal.invariant-loop-j
invariant-loop-j l = (k : ℕ) → k < l.j → clause_true (round_assignment l.f l.row l.values)
    (get_or l.f.matrix k []) ≡ true
