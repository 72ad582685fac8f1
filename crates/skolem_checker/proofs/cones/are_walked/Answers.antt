use Rattle.std.proofs.Common.{◌∙◌, arith}
use Rattle.skolem_checker.proofs.ConesLaws.{alone_more}
use Rattle.skolem_checker.proofs.cones.are_walked.Goals as goal

pub loop-i-preserved : goal.loop-i-preserved
loop-i-preserved c = record {
  same_length = c.is_alone.ensures.same_length ∙ c.loop-i.invariant.same_length;
  cone = c.is_alone.ensures.cone c.if-not-is_alone.false;
  alone = alone_more c.args.tested.now.circuit.now c.args.tested.now.literals.now c.args.places.now
      c.args.tested.now.formula.now c.args.ys.now c.args.settled c.loop-i.i c.loop-i.invariant.alone
      (rw c.has_bit-known.ensures at (c.is_alone.ensures.alone c.if-not-is_alone.false));
}

pub returns-clause-alone : goal.returns-clause-alone
returns-clause-alone c _ i e lt = c.loop-i.invariant.alone i e (omega (arith, lt, c.loop-i-test.false))
