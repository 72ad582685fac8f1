use Rattle.std.proofs.Common.{◌≡◌, take}
use Rattle.pec_front.specs.Boxes.{signals}
use Rattle.pec_front.proofs.layouts.signals.Given as goal

abbrev pub invariant-loop-black_box : goal.invariant-loop-black_box
invariant-loop-black_box l = l.all.items ≡ signals (take l.black_box-index l.boxes)
