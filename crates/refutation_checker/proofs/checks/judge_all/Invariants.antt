use Rattle.refutation_checker.proofs.JudgedItems.{AreJudged}
use Rattle.refutation_checker.proofs.checks.judge_all.Given as goal

abbrev pub invariant-loop-k : goal.invariant-loop-k
invariant-loop-k l = AreJudged l.f l.rows l.proving l.items l.k
