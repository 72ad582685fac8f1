use Rattle.std.proofs.Common.{ℕ, ◌<◌, ◌≤◌}
use Rattle.std.specs.Prelude.{slice_index}
use Rattle.circuit_plain.specs.Netlist.{gate_at, left_variable, right_variable}
use Rattle.skolem_checker.proofs.ends.are_closed.Given as goal

abbrev pub invariant-loop-i : goal.invariant-loop-i
invariant-loop-i l =
    (p : ℕ) → p < l.i → (slice_index l.ends (left_variable (gate_at l.circuit p))
    ≤ slice_index l.ends (gate_at l.circuit p).variable)
    × (slice_index l.ends (right_variable (gate_at l.circuit p)) ≤ slice_index l.ends (gate_at l.circuit p).variable)
