use Rattle.std.proofs.Common.{get_or, subst}
use Rattle.std.specs.List.{Contains}
use Rattle.skolem_checker.proofs.LeastNumbers.{not_before}
use Rattle.pec_front.proofs.wires.set_of.Goals as goal

pub push-requires : goal.push-requires
push-requires c among =
    let xs = c.args.numbers.now in
    let i = c.loop-number.number-index in
    not_before xs i 0 c.requires c.loop-number-test.true
    (subst (λ ks. Contains ks (get_or xs i 0)) c.loop-number.invariant among)
