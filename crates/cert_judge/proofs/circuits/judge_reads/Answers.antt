use Rattle.std.proofs.Common.{inr, subst}
use Rattle.skolem_checker.specs.Checks.{Candidate}
use Rattle.cert_judge.specs.Judgement.{IsTestedByRows}
use Rattle.cert_judge.proofs.circuits.judge_reads.Goals as goal

pub returns-in-Ok : goal.returns-in-Ok
returns-in-Ok c = inr (record {
  reads = c.in-Ok.ensures.answer;
  tested = subst (λ (b : Candidate). IsTestedByRows b.formula b.circuit c.judge_rows.result) c.in-Ok.ensures.same
      c.judge_rows.ensures;
})
