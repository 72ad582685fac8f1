use Rattle.std.proofs.Common.{◌≡◌, ◌++◌, take, drop, map}
use Rattle.circuit_plain.specs.Netlist.{literal_variable}
use Rattle.pec_front.specs.Reading.{repeats}
use Rattle.pec_front.proofs.box_lines.add_driven.Given as goal

abbrev pub invariant-loop-out : goal.invariant-loop-out
invariant-loop-out l = record {
  left : repeats l.initial.driven l.outs ≡ repeats l.driven (drop l.out-index l.outs);
  added : l.driven ≡ l.initial.driven ++ map literal_variable (take l.out-index l.outs);
}
