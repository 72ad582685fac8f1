use Rattle.std.proofs.Common.{◌≡◌, ◌+◌, length}
use Rattle.dq_lits.specs.Row.{bit_of}
use Rattle.circuit_plain.proofs.ReachLaws.{SidesMarked}
use Rattle.circuit_plain.proofs.circuits.Circuit.mark_sides.Given as goal

abbrev pub invariant-loop-i : goal.invariant-loop-i
invariant-loop-i l = record {
  long : length l.marks ≡ l.self.max_var + 1;
  sides : SidesMarked l.self l.order (bit_of l.initial.marks) (bit_of l.marks) l.i;
}
