use Rattle.std.proofs.Common.{◌≡◌, map, take}
use Rattle.gate_definitions.specs.Stating.{literal_node}
use Rattle.gate_definitions.proofs.literals.nodes_of.Given as goal

abbrev pub invariant-loop-l : goal.invariant-loop-l
invariant-loop-l l = l.nodes.items ≡ map (literal_node l.f) (take l.l-index l.lits)
