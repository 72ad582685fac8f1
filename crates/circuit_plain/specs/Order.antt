-- Topological orders of the gates.
use Rattle.std.specs.Prelude.{◌≡◌, ◌≢◌, ℕ, ◌<◌, ◌⊎◌, List, map, take, length, slice_index, All, AllPairs, Contains}
use Rattle.circuit_plain.specs.declared.circuits.Gate.{Gate}
use Rattle.circuit_plain.specs.Ground.{IsGrounded}
use Rattle.circuit_plain.specs.Netlist.{Netlist, IsDefined, gate_at, variable_of_gate, left_variable, right_variable}

-- the variable is the constant, an input, or a gate at one of these places
abbrev pub IsSettled : Netlist → List ℕ → ℕ → Type 0
IsSettled net places v =
    (v ≡ 0) ⊎ (Contains net.inputs v
    ⊎ Contains (map (λ p. variable_of_gate (gate_at net p)) places) v)

-- both right sides of a gate are settled
abbrev pub AreSidesSettled : Netlist → List ℕ → Gate → Type 0
AreSidesSettled net places g =
    IsSettled net places (left_variable g) × IsSettled net places (right_variable g)

-- the places of all gates, each once, such that each gate stands behind the gates that it reads
pub record IsOrder (net : Netlist) (order : List ℕ) : Type 0 where
  pub in_range : All (λ p. p < length net.gates) order
  pub each_once : AllPairs (λ p q. p ≢ q) order
  pub whole : (p : ℕ) → p < length net.gates → Contains order p
  pub follows : (k : ℕ) → k < length order
      → AreSidesSettled net (take k order) (gate_at net (slice_index order k))

-- with an order the constant, every input and every gate is in the least set
abbrev pub OrdersGround : Type 0
OrdersGround =
    (net : Netlist) (order : List ℕ) (v : ℕ) → IsOrder net order → (v ≡ 0) ⊎ IsDefined net v
    → IsGrounded net v
