use Rattle.std.proofs.Common.{◌≡◌, take}
use Rattle.pec_front.specs.Copies.{span_in, IsSized, AreSpansSet}
use Rattle.pec_front.proofs.copies.Copies.mark.Given as goal

abbrev pub invariant-loop-out : goal.invariant-loop-out
invariant-loop-out l = record {
  spans : AreSpansSet (span_in l.initial.self) (span_in l.self) (take l.out-index l.outs) l.span;
  sized : IsSized l.self;
  same : l.self.further.now ≡ l.initial.self.further.now;
}
