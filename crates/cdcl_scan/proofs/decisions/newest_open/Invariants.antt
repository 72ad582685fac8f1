use Rattle.std.proofs.Common.{◌≡◌, ◌≤◌, ℕ, Some, true, List, length, slice_get}
use Rattle.std.specs.List.{list_any}
use Rattle.dq_lits.specs.Literal.{Literal}
use Rattle.dq_lits.specs.Derivation.{holds}
use Rattle.learning_trail.specs.Steps.{literals_of}
use Rattle.cdcl_scan.proofs.decisions.newest_open.Given as goal

abbrev pub invariant-loop-id : goal.invariant-loop-id
invariant-loop-id l = record {
  within : l.id ≤ length l.clauses.clauses;
  satisfied : (i : ℕ) (c : List Literal) → l.id ≤ i → slice_get l.clauses.clauses i ≡ Some c →
      list_any (holds (literals_of l.trail.steps)) c ≡ true;
}

abbrev pub decreases-loop-id : goal.decreases-loop-id
decreases-loop-id l = l.id
