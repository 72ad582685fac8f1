use Rattle.std.proofs.Common.{◌≡◌, ◌+◌, ◌-◌, ◌≤◌, take, drop, length}
use Rattle.pec_front.specs.Boxes.{signals}
use Rattle.pec_front.specs.Copies.{span_in, IsSized, AreCopies}
use Rattle.pec_front.proofs.copies.Copies.mark_all.Given as goal

abbrev pub invariant-loop-left : goal.invariant-loop-left
invariant-loop-left l = record {
  within : l.left ≤ length l.boxes;
  next : l.next ≡ l.end - length (signals l.boxes) + length (signals (take l.left l.boxes));
  copies : AreCopies l.next (drop l.left l.boxes) (span_in l.self);
  sized : IsSized l.self;
  same : l.self.further.now ≡ l.initial.self.further.now;
}

abbrev pub decreases-loop-left : goal.decreases-loop-left
decreases-loop-left l = l.left
