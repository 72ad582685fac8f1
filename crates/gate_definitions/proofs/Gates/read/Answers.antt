use Rattle.std.proofs.Common.{arith}
use Rattle.gate_definitions.proofs.DeclaredPlaces.{number_range}
use Rattle.gate_definitions.proofs.Gates.read.Goals as goal

pub invariant_of-output-clause-existential : goal.invariant_of-output-clause-existential
invariant_of-output-clause-existential c = c.requires.existential

pub invariant_of-output-clause-from_one : goal.invariant_of-output-clause-from_one
invariant_of-output-clause-from_one c = search (arith, number_range)

pub invariant_of-output-clause-in_range : goal.invariant_of-output-clause-in_range
invariant_of-output-clause-in_range c = search (arith, number_range)
