use Rattle.std.proofs.Common.{◌≡◌, ◌-◌, map}
use Rattle.std.specs.List.{range_with_len}
use Rattle.pec_front.specs.Boxes.{inputs_of}
use Rattle.pec_front.specs.Encoding.{driven_existential}
use Rattle.pec_front.proofs.prefixes.declare_driven.Given as goal

abbrev pub invariant-loop-i : goal.invariant-loop-i
invariant-loop-i l =
    l.f ≡ record l.initial.f {
      existentials = map (driven_existential l.design) (range_with_len (inputs_of l.design) (l.i - inputs_of l.design));
    }
