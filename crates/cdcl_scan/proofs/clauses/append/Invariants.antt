use Rattle.std.proofs.Common.{◌≡◌, ◌≤◌, ◌+◌, ◌++◌, length, take, vec_capacity}
use Rattle.cdcl_scan.proofs.clauses.append.Given as goal

abbrev pub invariant-loop-l : goal.invariant-loop-l
invariant-loop-l l = record {
  items : l.literals.items ≡ l.fn.literals.items ++ take l.l-index l.lits;
  capacity : length l.fn.literals.items + length l.lits ≤ vec_capacity l.literals;
}
