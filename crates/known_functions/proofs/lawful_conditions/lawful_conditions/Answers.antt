use Rattle.known_functions.proofs.ConsistentConditions.{no_conditions}
use Rattle.known_functions.proofs.lawful_conditions.lawful_conditions.Goals as goal

pub loop-l-init : goal.loop-l-init
loop-l-init c = rw c.new-lawful.ensures.items (no_conditions c.args.f.now c.args.y)
