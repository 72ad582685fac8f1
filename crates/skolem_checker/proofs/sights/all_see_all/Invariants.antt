use Rattle.std.proofs.Common.{ℕ, ◌<◌, length}
use Rattle.std.specs.Prelude.{slice_index, Contains}
use Rattle.dq_lits.specs.Formula.{Existential}
use Rattle.skolem_checker.specs.Reads.{IsAt}
use Rattle.skolem_checker.proofs.sights.all_see_all.Given as goal

abbrev pub invariant-loop-y : goal.invariant-loop-y
invariant-loop-y l =
    (i : ℕ) (e : Existential) → i < l.y-index → IsAt l.f l.ys i e → (q : ℕ) → q < length l.f.universals →
    Contains e.sees (slice_index l.f.universals q)
