use Rattle.std.proofs.Common.{arith}
use Rattle.cert_judge.proofs.BinaryAnswers.{no_proof_gives}
use Rattle.cert_judge.proofs.binary.bare_free_text.Goals as goal

pub returns-then-bare-universals-clause-gives : goal.returns-then-bare-universals-clause-gives
returns-then-bare-universals-clause-gives c = search (arith, (no_proof_gives c.args.f.now c.args.first c.args.bare))
