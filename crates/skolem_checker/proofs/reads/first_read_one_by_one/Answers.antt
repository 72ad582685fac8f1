use Rattle.std.proofs.Common.{inl, inr, arith}
use Rattle.std.proofs.lemmas.Bool.{cases_eq}
use Rattle.skolem_checker.proofs.SightsLaws.{told_at}
use Rattle.skolem_checker.proofs.reads.first_read_one_by_one.Goals as goal

pub loop-i-preserved : goal.loop-i-preserved
loop-i-preserved c j e lt at =
    let f = c.args.f.now in
    elim (cases_eq j c.loop-i.i) [
      | inl same ↦ search (arith, told_at)
      | inr other ↦ c.loop-i.invariant j e (omega (arith, lt, other)) at
    ]

pub returns : goal.returns
returns c i e at = c.loop-i.invariant i e (omega (arith, at.0, c.loop-i-test.false)) at
