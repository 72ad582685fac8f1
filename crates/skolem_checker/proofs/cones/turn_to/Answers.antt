use Rattle.skolem_checker.proofs.ConesLaws.{turned}
use Rattle.skolem_checker.proofs.cones.turn_to.Goals as goal

pub returns-clause-cone : goal.returns-clause-cone
returns-clause-cone c net literals slots before =
    turned c.args.f.now net literals slots c.args.cone.now c.start_for-cone.result c.args.y
    (c.start_for-cone.ensures.within before.ordered) c.requires.declared c.start_for-cone.ensures.start before
