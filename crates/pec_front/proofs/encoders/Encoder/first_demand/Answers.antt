use Rattle.std.proofs.Common.{◌+◌, arith}
use Rattle.pec_front.proofs.EncoderSteps.{flag-more}
use Rattle.pec_front.proofs.encoders.Encoder.first_demand.Goals as goal

pub loop-i-preserved : goal.loop-i-preserved
loop-i-preserved c =
    search (
      arith,
      (flag-more c.args.self.now.design.now c.loop-i.clause.items c.push-in-loop-i.new.self.items c.neg.result c.loop-i.i (c.args.self.now.layout.first_same + c.loop-i.i) c.loop-i.invariant c.in_ok-push-2.ensures.items c.neg.ensures),
    )
