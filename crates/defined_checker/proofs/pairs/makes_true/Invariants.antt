use Rattle.std.proofs.Common.{◌≡◌, ℕ, ◌<◌, true, [], get_or}
use Rattle.dq_lits.specs.Literal.{clause_true}
use Rattle.cert_text.specs.DefinitionsRead.{valuation_seen}
use Rattle.defined_checker.specs.FreePairs.{valuation_assignment}
use Rattle.defined_checker.proofs.pairs.makes_true.Given as goal

-- the clauses that were passed are true
abbrev pub invariant-loop-j : goal.invariant-loop-j
invariant-loop-j l = (k : ℕ) → k < l.j
    → clause_true (valuation_assignment l.f (valuation_seen l.v)) (get_or l.f.matrix k []) ≡ true
