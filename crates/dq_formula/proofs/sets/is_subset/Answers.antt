use Rattle.std.proofs.Common.{true≢false, get_or, refl, sym, ◌∙◌, arith}
use Rattle.std.proofs.lemmas.List.{take_all}
use Rattle.dq_formula.proofs.Subsets.{IsWalked, IsFirstFrom, walked_more, not_contained}
use Rattle.dq_formula.proofs.sets.is_subset.Goals as goal

pub returns-then-not-stands_at : goal.returns-then-not-stands_at
returns-then-not-stands_at c =
    let xs = c.args.xs.now in
    let ys = c.args.ys.now in
    let i = c.loop-x.x-index in
    let walked : IsWalked xs ys i c.loop-x.at = search arith in
    let first : IsFirstFrom ys c.loop-x.at c.first_from-at.result (get_or xs i 0) = search arith in (
      (λ h. absurd (true≢false (sym h))),
      (λ all. absurd (not_contained xs ys i c.loop-x.at c.first_from-at.result
          (get_or xs i 0) c.requires.second walked first c.loop-x-test.true refl
          (λ h. true≢false (sym (c.stands_at.ensures.1 h) ∙ c.if-not-stands_at.true)) all)),
    )

pub loop-x-preserved : goal.loop-x-preserved
loop-x-preserved c =
    let xs = c.args.xs.now in
    let ys = c.args.ys.now in
    let i = c.loop-x.x-index in
    let walked : IsWalked xs ys i c.loop-x.at = search arith in
    let first : IsFirstFrom ys c.loop-x.at c.first_from-at.result (get_or xs i 0) = search arith in
    let next = walked_more xs ys i c.loop-x.at c.first_from-at.result
    (get_or xs i 0) c.requires.first walked first c.loop-x-test.true refl
    (c.stands_at.ensures.0 c.if-not-stands_at.false) in
    record { within = next.within; found = next.found; passed = next.passed }

pub returns : goal.returns
returns c = (
  (λ _. rw (take_all c.loop-x.x-index c.args.xs.now c.loop-x-test.false) at c.loop-x.invariant.found),
  (λ _. refl),
)
