use Rattle.std.proofs.Common.{◌≡◌, ◌≤◌, Some}
use Rattle.dq_lits.specs.Formula.{Existential, existential_of}
use Rattle.skolem_checker.specs.Cones.{IsClean, Grows}
use Rattle.skolem_checker.proofs.cones.walk.Given as goal

abbrev pub invariant-loop-place : goal.invariant-loop-place
invariant-loop-place l = record {
  grows : Grows l.fn.slots l.slots l.fn.cone l.cone;
  before : l.place ≤ l.cone.end;
  clean : (e : Existential) → existential_of l.tested.formula.now l.y ≡ Some e
      → IsClean l.tested.circuit.now l.tested.literals.now l.tested.formula.now.universals e.sees l.slots l.cone
      l.place;
}
