use Rattle.std.proofs.Common.{arith}
use Rattle.proof_checker.proofs.KeptLiterals.{no_literal}
use Rattle.proof_checker.proofs.circuit_literals.CircuitLiterals.literal.Goals as goal

pub returns-in-None-place : goal.returns-in-None-place
returns-in-None-place c = search (arith, no_literal)
