-- How far the universals reach that a variable reads.
use Rattle.std.proofs.Common.{ℕ, ◌<◌, ◌≤◌, List, length, arith}
use Rattle.std.specs.Prelude.{slice_index}
use Rattle.circuit_plain.specs.Netlist.{Netlist}
use Rattle.circuit_plain.specs.Reach.{Reaches, itself, left, right}
use Rattle.skolem_checker.specs.Cones.{AreEnds, AreClosed, circuit_variable}

raised : (net : Netlist) (ends : List ℕ) → AreClosed net ends → {v w : ℕ} → Reaches net v w →
    slice_index ends w ≤ slice_index ends v
raised net ends closed itself = omega arith
raised net ends closed (left g g_in p) = omega (arith, raised net ends closed p, (closed g g_in).0)
raised net ends closed (right g g_in p) = omega (arith, raised net ends closed p, (closed g g_in).1)

pub are_ends : (net : Netlist) (literals universals ends : List ℕ) → AreClosed net ends →
    ((q : ℕ) → q < length universals → q < slice_index ends (circuit_variable literals (slice_index universals q)))
    → AreEnds net literals universals ends
are_ends net literals universals ends closed above q v below reaches =
    omega (arith, raised net ends closed reaches, above q below)
