use Rattle.std.proofs.Common.{ℕ, IfSome}
use Rattle.rup_core.specs.Extension.{seen, UnitIsFree, UnitStandsWithin}
use Rattle.rup_core.specs.Range.{StandsWithin}
use Rattle.rup_core.proofs.ReadStatus.{IsStatusBefore}
use Rattle.rup_core.proofs.statuses.status_read.Given as goal

abbrev pub invariant-loop-i : goal.invariant-loop-i
invariant-loop-i g l = record {
  read : IsStatusBefore l.trail.trues (g.B.Base.clauses l.base l.id) l.i (seen l.status);
  free : UnitIsFree l.trail.trues (seen l.status);
  within : (n : ℕ) → IfSome (g.B.Base.clauses l.base l.id) (StandsWithin n) → UnitStandsWithin n (seen l.status);
}
