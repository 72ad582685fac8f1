use Rattle.std.proofs.Common.{◌≡◌, ◌+◌, map, take}
use Rattle.lifted_proofs.specs.Liftables.{is_false}
use Rattle.lifted_proofs.proofs.liftings.Lifting.kept_false.Given as goal

abbrev pub invariant-loop-j : goal.invariant-loop-j
invariant-loop-j l =
    l.lits.items ≡ map (is_false (l.self.bench.now.circuit.netlist.max_var + 1)) (take l.j l.self.kept.items)
