use Rattle.std.proofs.Common.{◌≡◌, Some}
use Rattle.dq_lits.specs.Formula.{Existential, existential_of}
use Rattle.circuit_plain.specs.Words.{marked}
use Rattle.skolem_checker.specs.Checks.{ReadsDeclaredBefore}
use Rattle.skolem_checker.specs.Tables.{ReadsByMarks}
use Rattle.skolem_checker.proofs.reads.first_undeclared.Given as goal

abbrev pub invariant-loop-x : goal.invariant-loop-x
invariant-loop-x l =
    (e : Existential) → existential_of l.f l.y ≡ Some e → ReadsDeclaredBefore
    (ReadsByMarks (marked l.words l.i) l.literals) l.f e l.x-index
