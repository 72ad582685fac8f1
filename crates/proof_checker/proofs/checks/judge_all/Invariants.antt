use Rattle.proof_checker.proofs.DerivedLines.{AreJudged}
use Rattle.proof_checker.proofs.checks.judge_all.Given as goal

abbrev pub invariant-loop-k : goal.invariant-loop-k
invariant-loop-k l = AreJudged l.f l.c l.fn.proving l.proving l.items l.k
