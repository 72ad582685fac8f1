use Rattle.std.proofs.Common.{get_or, ap, arith}
use Rattle.std.proofs.lemmas.Option.{slice_get-get_or}
use Rattle.lifted_proofs.proofs.TakenUnits.{step-on, step-off}
use Rattle.lifted_proofs.proofs.units.units_on.Goals.{in-Some, in_default}
use Rattle.lifted_proofs.proofs.units.units_on.Goals as goal

pub loop-j-preserved : goal.loop-j-preserved
loop-j-preserved c =
    let f = c.args.f.now in
    let units = c.args.units.now in
    let u = get_or units c.loop-j.j c.index-units-j.result in
    elim c.match-existential_place.branch [
      | in-Some w ↦
          step-on f units c.loop-j.j w.in-Some.place c.var.result u c.existential_place.result c.loop-j.on.items
          c.match-existential_place.on.items c.requires.units
          (slice_get-get_or units c.loop-j.j c.index-units-j.result c.loop-j-test.true) c.var.ensures.value
          c.existential_place.ensures w.in-Some.is c.loop-j.invariant (ap (λ v. v.items) w.on-is)
      | in_default w ↦ search (arith, step-off, slice_get-get_or)
    ]
