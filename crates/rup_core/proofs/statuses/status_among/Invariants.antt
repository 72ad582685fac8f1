use Rattle.std.proofs.Common.{ℕ, Some}
use Rattle.rup_core.specs.Extension.{seen, UnitIsFree, UnitStandsWithin}
use Rattle.rup_core.specs.Range.{StandsWithin}
use Rattle.rup_core.proofs.ReadStatus.{IsStatusBefore}
use Rattle.rup_core.proofs.statuses.status_among.Given as goal

abbrev pub invariant-loop-l : goal.invariant-loop-l
invariant-loop-l l = record {
  read : IsStatusBefore l.trail.trues (Some l.lits) l.l-index (seen l.status);
  free : UnitIsFree l.trail.trues (seen l.status);
  within : (n : ℕ) → StandsWithin n l.lits → UnitStandsWithin n (seen l.status);
}
