use Rattle.std.proofs.Common.{sym, subst, ap, Some}
use Rattle.std.specs.List.{All}
use Rattle.std.proofs.lemmas.List.Elements.{All-nil, All-push}
use Rattle.repair_loop.specs.Constants.{IsConstant}
use Rattle.repair_loop.proofs.signs.Signs.constants.Goals as goal

pub loop-place-init : goal.loop-place-init
loop-place-init c = subst (All IsConstant) (sym c.new-nodes.ensures.items) (All-nil IsConstant)

pub loop-place-preserved : goal.loop-place-preserved
loop-place-preserved c =
    subst (All IsConstant) (sym c.in_ok-push.ensures.items)
    (All-push IsConstant c.loop-place.nodes.items _ c.loop-place.invariant (_, ap Some c.constant.ensures))

pub returns : goal.returns
returns c = c.loop-place.invariant
