use Rattle.std.proofs.Common.{arith}
use Rattle.refutation_checker.proofs.BoundVariables.{bound_more, all_bound, leader_sees}
use Rattle.refutation_checker.proofs.bindings.Bindings.bind_existentials.Goals as goal

pub loop-place-init : goal.loop-place-init
loop-place-init c = search arith

pub loop-place-preserved : goal.loop-place-preserved
loop-place-preserved c = search (arith, bound_more)

pub bind-requires : goal.bind-requires
bind-requires c = search (arith, leader_sees)

pub returns : goal.returns
returns c =
    let many = c.requires.leaders.many in
    let end = c.loop-place-test.false in
    let most = c.loop-place.auto.place-end in
    all_bound c.args.f.now c.loop-place.self.sets.items c.loop-place.self.of.items c.loop-place.place
    c.every_formula_is_lawful.ensures (omega (arith, many, end))
    (omega (arith, many, most)) c.loop-place.invariant
