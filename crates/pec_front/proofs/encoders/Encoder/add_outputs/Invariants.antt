use Rattle.std.proofs.Common.{◌*◌, take}
use Rattle.pec_front.specs.Encoder.{AreAdded}
use Rattle.pec_front.specs.Encoding.{all_outputs}
use Rattle.pec_front.proofs.encoders.Encoder.add_outputs.Given as goal

abbrev pub invariant-loop-o : goal.invariant-loop-o
invariant-loop-o l =
    AreAdded l.initial.f l.f
    (all_outputs l.self.design.now 0 (take l.o l.self.design.now.specification.outputs)) (4 * l.o)
