use Rattle.std.proofs.Common.{◌-◌, length}
use Rattle.aig_binary.specs.MoreGates.{AreGatesSoFar, GoOn, IsBehind}
use Rattle.aig_binary.proofs.more_gates.take_whole_gates.Given as goal

abbrev pub invariant-loop-header : goal.invariant-loop-header
invariant-loop-header l = record {
  so_far : AreGatesSoFar l.header l.circuit;
  goes : GoOn l.header l.initial.circuit l.initial.deltas l.circuit l.deltas;
  behind : IsBehind l.header l.initial.circuit l.initial.deltas l.circuit l.deltas;
}

abbrev pub decreases-loop-header : goal.decreases-loop-header
decreases-loop-header l = l.header.gates - length l.circuit.gates
