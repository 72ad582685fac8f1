-- What can be evaluated: AIGER allows no cycle of gates.
use Rattle.std.specs.Prelude.{ℕ, ◌<◌, length, Contains}
use Rattle.circuit_plain.specs.declared.circuits.Gate.{Gate}
use Rattle.circuit_plain.specs.Netlist.{Netlist, gate_at, left_variable, right_variable}

-- the least set of variables that holds the constant, the inputs, and a gate as soon as it holds
-- the variables of both right sides
pub data IsGrounded (net : Netlist) : ℕ → Type 0 where
  constant : IsGrounded net 0
  input : {v : ℕ} → Contains net.inputs v → IsGrounded net v
  gate : (g : Gate) → Contains net.gates g → IsGrounded net (left_variable g)
      → IsGrounded net (right_variable g) → IsGrounded net g.variable

-- the gate at this place is the first outside the least set
pub record IsFirstUngrounded (net : Netlist) (place : ℕ) : Type 0 where
  pub in_range : place < length net.gates
  pub outside : ¬ IsGrounded net (gate_at net place).variable
  pub first : (p : ℕ) → p < place → IsGrounded net (gate_at net p).variable
