use Rattle.std.proofs.Common.{arith}
use Rattle.cert_judge.proofs.BinaryAnswers.{binary_takes}
use Rattle.cert_judge.proofs.CommentLines.{proof_takes}
use Rattle.cert_judge.proofs.Starts.{refutation_takes}
use Rattle.cert_judge.proofs.Turns.{circuit_takes}
use Rattle.cert_judge.proofs.phases.take_line.Goals as goal

pub returns-in-Refutation-clause-takes : goal.returns-in-Refutation-clause-takes
returns-in-Refutation-clause-takes c behind answer last says = search (arith, refutation_takes)

pub returns-in-Proof-clause-takes : goal.returns-in-Proof-clause-takes
returns-in-Proof-clause-takes c behind answer last says = search (arith, proof_takes)

pub returns-in_ok-next-in-Circuit-clause-takes : goal.returns-in_ok-next-in-Circuit-clause-takes
returns-in_ok-next-in-Circuit-clause-takes c = search (arith, circuit_takes)

pub returns-in_ok-next-in-Binary-clause-takes : goal.returns-in_ok-next-in-Binary-clause-takes
returns-in_ok-next-in-Binary-clause-takes c = search (arith, binary_takes)
