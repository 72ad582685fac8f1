use Rattle.std.proofs.Common.{arith}
use Rattle.proof_checker.proofs.KeptLiterals.{literal_below}
use Rattle.proof_checker.proofs.circuit_literals.CircuitLiterals.literal_under.Goals as goal

pub opposite_of-requires : goal.opposite_of-requires
opposite_of-requires c = search (arith, literal_below)
