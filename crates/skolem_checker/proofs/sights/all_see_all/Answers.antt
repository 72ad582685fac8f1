use Rattle.std.proofs.Common.{ℕ, ◌<◌, inl, inr, length, arith}
use Rattle.std.specs.Prelude.{slice_index, Contains}
use Rattle.std.proofs.lemmas.Bool.{cases_eq}
use Rattle.dq_lits.specs.Formula.{Existential}
use Rattle.skolem_checker.proofs.SightsLaws.{told_at}
use Rattle.skolem_checker.proofs.sights.all_see_all.Goals as goal

pub loop-y-preserved : goal.loop-y-preserved
loop-y-preserved c i e lt at =
    let f = c.args.f.now in
    let P : Existential → Type 0 = λ d. (q : ℕ) → q < length f.universals →
    Contains d.sees (slice_index f.universals q) in
    elim (cases_eq i c.loop-y.y-index) [
      | inl same ↦ told_at f c.args.ys.now i c.loop-y.y-index e P same at (c.sees_all.ensures c.if-not-sees_all.false)
      | inr other ↦ c.loop-y.invariant i e (omega (arith, lt, other)) at
    ]

pub returns : goal.returns
returns c _ i e at = c.loop-y.invariant i e (omega (arith, at.0, c.loop-y-test.false)) at
