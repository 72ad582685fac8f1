use Rattle.std.proofs.Common.{arith}
use Rattle.lifted_proofs.proofs.LiftedNames.{output-range}
use Rattle.lifted_proofs.proofs.settled.output_at.Goals as goal

pub pos-positive-requires-clause-from_one : goal.pos-positive-requires-clause-from_one
pos-positive-requires-clause-from_one c = search (arith, output-range)

pub pos-positive-requires-clause-in_range : goal.pos-positive-requires-clause-in_range
pos-positive-requires-clause-in_range c = search (arith, output-range)
