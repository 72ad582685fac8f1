use Rattle.std.proofs.Common.{◌≡◌, map, take}
use Rattle.dq_lits.specs.Literal.{opposite}
use Rattle.rup_core.proofs.FalseLiterals.{IsConsistent}
use Rattle.rup_core.proofs.derivation.assume_false.Given as goal
use Rattle.dq_lits.specs.Derivation.{AreSame}

abbrev pub invariant-loop-l : goal.invariant-loop-l
invariant-loop-l l = record {
  variables : l.trail.variables ≡ l.initial.trail.variables;
  assumed : AreSame l.trail.trues (map opposite (take l.l-index l.lits));
  consistent : IsConsistent l.trail.trues;
}
