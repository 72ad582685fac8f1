-- Structural support, or the cone of influence: what is reached through right sides, whatever the
-- values.
use Rattle.std.specs.Prelude.{ℕ, Contains}
use Rattle.circuit_plain.specs.declared.circuits.Gate.{Gate}
use Rattle.circuit_plain.specs.Netlist.{Netlist, left_variable, right_variable}

-- a variable reaches itself, and a gate reaches what the variables of its right sides reach
pub data Reaches (net : Netlist) : ℕ → ℕ → Type 0 where
  itself : {v : ℕ} → Reaches net v v
  left : {x : ℕ} → (g : Gate) → Contains net.gates g → Reaches net (left_variable g) x
      → Reaches net g.variable x
  right : {x : ℕ} → (g : Gate) → Contains net.gates g → Reaches net (right_variable g) x
      → Reaches net g.variable x
