use Rattle.std.proofs.Common.{◌≡◌, ◌+◌, drop}
use Rattle.dq_lits.specs.Derivation.{hint_fault}
use Rattle.rup_core.proofs.derivation.hint_fault.Given as goal

abbrev pub invariant-loop-i : goal.invariant-loop-i
invariant-loop-i g l = record {
  variables : l.trail.variables ≡ l.initial.trail.variables;
  left : hint_fault (g.B.Base.clauses l.base) l.initial.trail.trues 1 l.hints ≡ hint_fault
      (g.B.Base.clauses l.base) l.trail.trues (l.i + 1) (drop l.i l.hints);
}
