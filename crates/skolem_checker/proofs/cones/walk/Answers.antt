use Rattle.std.proofs.Common.{◌<◌, length, ◌∙◌, subst, arith}
use Rattle.std.proofs.lemmas.List.{get_or_default}
use Rattle.skolem_checker.specs.Cones.{Passes}
use Rattle.skolem_checker.proofs.ConesLaws.{grows_on, clean_on, clean_more}
use Rattle.skolem_checker.proofs.cones.walk.Goals as goal

pub loop-place-preserved : goal.loop-place-preserved
loop-place-preserved c =
    let net = c.args.tested.now.circuit.now in
    let literals = c.args.tested.now.literals.now in
    let universals = c.args.tested.now.formula.now.universals in
    let grows = c.visit.ensures.grows in
    let below : c.loop-place.place < length c.loop-place.cone.members.items =
    omega (arith, c.if-place-cone.false, c.loop-place.invariant.grows.room) in
    record {
      grows = grows_on c.args.slots.now c.loop-place.slots c.visit.new.slots c.args.cone.now c.loop-place.cone
          c.visit.new.cone c.loop-place.invariant.grows grows;
      before = omega (arith, c.if-place-cone.false, grows.end);
      clean = λ e is.
          clean_more net literals universals e.sees c.visit.new.slots c.visit.new.cone c.loop-place.place
          (clean_on net literals universals e.sees c.loop-place.slots c.visit.new.slots c.loop-place.cone
          c.visit.new.cone c.loop-place.place grows c.loop-place.invariant.before
          (c.loop-place.invariant.clean e is))
          (rw (grows.same c.loop-place.place (omega (arith, c.if-place-cone.false)))
          (subst (Passes net literals universals e.sees c.visit.new.slots c.visit.new.cone) (c.index-v.ensures
          ∙ get_or_default c.loop-place.cone.members.items c.loop-place.place c.index-v.result.now 0 below)
          (c.visit.ensures.passes c.if-not-visit.false e is)));
    }

pub returns-clause-clean : goal.returns-clause-clean
returns-clause-clean c _ e is k from below = search arith
