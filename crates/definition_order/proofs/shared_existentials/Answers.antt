use Rattle.std.proofs.Common.{ℕ, ◌+◌, subst, sym, Vec, Global, arith}
use Rattle.definition_order.proofs.SortedExistentials.{AreSharedSoFar, one_shared, none_shared, all_shared, past}
use Rattle.definition_order.proofs.shared_existentials.Goals.{then-is_shared_at+in_ok-push, else-is_shared_at}
use Rattle.dq_formula.proofs.Places.{existential_below}
use Rattle.definition_order.proofs.shared_existentials.Goals as goal

pub loop-place-preserved : goal.loop-place-preserved
loop-place-preserved c =
    let f = c.args.f.now in
    let y = c.args.y in
    let ranks = c.args.ranks.now in
    let place = c.loop-place.place in
    let below = existential_below f c.existentials-place-end.result.now place c.existentials-place-end.ensures
    c.loop-place-test.true in
    elim c.if-is_shared_at.branch [
      | then-is_shared_at+in_ok-push w ↦ subst (λ (v : Vec ℕ Global). AreSharedSoFar f ranks y v.items (place + 1))
          (sym w.places-is)
          (subst (λ ps. AreSharedSoFar f ranks y ps (place + 1)) (sym w.in_ok-push.ensures.items)
          (one_shared f ranks y c.loop-place.places.items place c.is_shared_at.result c.loop-place.invariant below
          c.is_shared_at.ensures w.if-is_shared_at.true))
      | else-is_shared_at w ↦ search (arith, none_shared)
    ]

pub returns : goal.returns
returns c =
    all_shared c.args.f.now c.args.ranks.now c.args.y c.loop-place.places.items c.loop-place.place
    c.loop-place.invariant (past c.args.f.now c.existentials-place-end.result.now c.loop-place.place
    c.existentials-place-end.ensures c.loop-place-test.false)
