use Rattle.std.proofs.Common.{reverse, take}
use Rattle.dq_prep.specs.KeptClauses.{IsTableOf}
use Rattle.dq_prep.proofs.kept_clauses.literals_taken.Given as goal

abbrev pub invariant-loop-unit : goal.invariant-loop-unit
invariant-loop-unit l = IsTableOf (reverse (take l.unit-index (reverse l.trace))) l.clauses l.table.items
