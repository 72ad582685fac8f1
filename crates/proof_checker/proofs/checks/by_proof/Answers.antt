use Rattle.std.proofs.Common.{arith}
use Rattle.proof_checker.proofs.JudgedProofs.{proof_lines}
use Rattle.proof_checker.proofs.checks.by_proof.Goals as goal

pub lines_fault-requires : goal.lines_fault-requires
lines_fault-requires c = search (arith, proof_lines)
