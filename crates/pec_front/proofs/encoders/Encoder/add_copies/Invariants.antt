use Rattle.std.proofs.Common.{◌*◌, take}
use Rattle.pec_front.specs.Encoder.{AreAdded}
use Rattle.pec_front.specs.Encoding.{all_copies}
use Rattle.pec_front.proofs.encoders.Encoder.add_copies.Given as goal

abbrev pub invariant-loop-i : goal.invariant-loop-i
invariant-loop-i l =
    AreAdded l.initial.f l.f (all_copies l.self.design.now 0 (take l.i l.self.signals.items)) (4 * l.i)
