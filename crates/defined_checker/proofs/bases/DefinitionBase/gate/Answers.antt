use Rattle.std.proofs.Common.{arith}
use Rattle.defined_checker.proofs.SmallGates.{small_gate}
use Rattle.defined_checker.proofs.bases.DefinitionBase.gate.Goals as goal

pub returns-clause-small : goal.returns-clause-small
returns-clause-small c = search (arith, small_gate)
