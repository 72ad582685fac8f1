use Rattle.std.proofs.Common.{arith}
use Rattle.lifted_proofs.proofs.TakenUnits.{place-none, told-at, told-none, told-within, told-other, not-false-here}
use Rattle.lifted_proofs.proofs.units.UnitTable.false_by.Goals as goal

pub returns-in_default : goal.returns-in_default
returns-in_default c = search (arith, place-none)

pub returns-in_default-index : goal.returns-in_default-index
returns-in_default-index c = search (arith, told-none, told-at)

pub returns-then-j-count : goal.returns-then-j-count
returns-then-j-count c =
    let t = c.args.self.now in
    told-other t.units.now c.args.count c.args.l c.index.result.now c.in-Some-index.j
    (told-at t.formula.now t.units.now t.on.items c.args.l c.var.result c.in-Some.place c.existential_place.result
    c.index.result.now c.requires.right.tell c.requires.right.many c.var.ensures.value c.existential_place.ensures
    c.in-Some.is c.index.ensures) c.in-Some-index.is
    (λ u at before same. absurd (omega (arith, before, c.if-j-count.true)))

pub makes_false-requires : goal.makes_false-requires
makes_false-requires c =
    let t = c.args.self.now in
    told-within t.units.now c.args.l c.index.result.now c.in-Some-index.j
    (told-at t.formula.now t.units.now t.on.items c.args.l c.var.result c.in-Some.place c.existential_place.result
    c.index.result.now c.requires.right.tell c.requires.right.many c.var.ensures.value c.existential_place.ensures
    c.in-Some.is c.index.ensures) c.in-Some-index.is

pub returns-then-not-makes_false : goal.returns-then-not-makes_false
returns-then-not-makes_false c =
    let t = c.args.self.now in
    told-other t.units.now c.args.count c.args.l c.index.result.now c.in-Some-index.j
    (told-at t.formula.now t.units.now t.on.items c.args.l c.var.result c.in-Some.place c.existential_place.result
    c.index.result.now c.requires.right.tell c.requires.right.many c.var.ensures.value c.existential_place.ensures
    c.in-Some.is c.index.ensures) c.in-Some-index.is
    (λ u at before. not-false-here t.units.now c.in-Some-index.j c.args.l c.makes_false.result c.makes_false.ensures
    c.if-not-makes_false.true u at)
