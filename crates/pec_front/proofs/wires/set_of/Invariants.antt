use Rattle.std.proofs.Common.{◌≡◌, take}
use Rattle.pec_front.proofs.wires.set_of.Given as goal

abbrev pub invariant-loop-number : goal.invariant-loop-number
invariant-loop-number l = l.set ≡ take l.number-index l.numbers
