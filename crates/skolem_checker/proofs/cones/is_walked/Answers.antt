use Rattle.std.proofs.Common.{ap, ◌∙◌, arith}
use Rattle.dq_lits.specs.Formula.{existential_of}
use Rattle.skolem_checker.proofs.ConesLaws.{clean_on, walked_alone}
use Rattle.skolem_checker.proofs.cones.is_walked.Goals as goal

pub add-requires-clause-begun : goal.add-requires-clause-begun
add-requires-clause-begun c =
    let turned = c.turn_to.ensures.cone c.args.tested.now.circuit.now c.args.tested.now.literals.now c.args.slots.now
    c.requires.cone in
    record { ordered = turned.ordered; room = turned.room }

pub walk-requires-clause-clean : goal.walk-requires-clause-clean
walk-requires-clause-clean c e is =
    let net = c.args.tested.now.circuit.now in
    let literals = c.args.tested.now.literals.now in
    let f = c.args.tested.now.formula.now in
    let turned = c.turn_to.ensures.cone net literals c.args.slots.now c.requires.cone in
    clean_on net literals f.universals e.sees c.args.slots.now c.add.new.slots c.turn_to.new.cone c.add.new.cone
    c.turn_to.new.cone.end c.add.ensures.grows (omega arith)
    (turned.clean e (ap (existential_of f) c.turn_to.ensures.last ∙ is))

pub returns-clause-alone : goal.returns-clause-alone
returns-clause-alone c passes e is =
    search (
      arith,
      (walked_alone c.args.tested.now.circuit.now c.args.tested.now.literals.now c.args.tested.now.formula.now.universals e.sees c.walk.new.slots c.walk.new.cone c.args.root (c.walk.ensures.clean passes e is) (c.walk.ensures.grows.keeps c.args.root (c.add.ensures.member c.if-not-add.false))),
    )
