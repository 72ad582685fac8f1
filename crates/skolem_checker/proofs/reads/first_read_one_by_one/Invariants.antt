use Rattle.std.proofs.Common.{ℕ, ◌<◌}
use Rattle.dq_lits.specs.Formula.{Existential}
use Rattle.skolem_checker.specs.Reads.{IsAt, IsDeclared}
use Rattle.skolem_checker.proofs.reads.first_read_one_by_one.Given as goal

abbrev pub invariant-loop-i : goal.invariant-loop-i
invariant-loop-i l = (j : ℕ) (e : Existential) → j < l.i → IsAt l.f l.ys j e → IsDeclared l.f l.literals l.words j e
