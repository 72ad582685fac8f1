use Rattle.std.proofs.Common.{◌≡◌, ℕ, nat_lt, inl, inr, get_or, refl, subst, arith}
use Rattle.std.proofs.lemmas.Bool.{cases_Bool, ltb-true, ltb-false}
use Rattle.std.proofs.lemmas.List.{get_or_default}
use Rattle.cert_text.specs.DefinitionsRead.{pair_seen}
use Rattle.defined_checker.specs.Answers.{IsAlikeAt}
use Rattle.defined_checker.proofs.pairs.are_alike_on.Goals as goal

pub loop-variable-preserved : goal.loop-variable-preserved
loop-variable-preserved c e is k below =
    let P : ℕ → Type 0 = λ j. IsAlikeAt c.args.f.now e (pair_seen c.args.p.now) (get_or c.args.variables.now j 0) in
    elim (cases_Bool (nat_lt k c.loop-variable.variable-index)) [
      | inl low ↦ c.loop-variable.invariant e is k (ltb-true k c.loop-variable.variable-index low)
      | inr other ↦
          let high = ltb-false k c.loop-variable.variable-index other in
          let same : c.loop-variable.variable-index ≡ k = omega (arith, below, high) in
          subst P same ((c.if-not-is_alike_at.ensures e is).0 refl)
    ]

pub returns : goal.returns
returns c y is = (
  λ _ k d below. subst (IsAlikeAt c.args.f.now y (pair_seen c.args.p.now))
      (get_or_default c.args.variables.now k 0 d below)
      (c.loop-variable.invariant y is k (omega (arith, below, c.loop-variable-test.false))),
  λ _. refl,
)
