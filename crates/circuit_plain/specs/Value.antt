-- The value of a variable in a combinational AIGER netlist: false at the constant, an input's bit,
-- and at a gate the conjunction of its right sides. The gates may stand in any order.
use Rattle.std.specs.Prelude.{◌≡◌, ℕ, ◌<◌, Bool, false, ◌&&◌, length, slice_index, All, Contains}
use Rattle.circuit_plain.specs.declared.circuits.Gate.{Gate}
use Rattle.circuit_plain.specs.Ground.{IsGrounded}
use Rattle.circuit_plain.specs.Netlist.{Netlist, IsNetlist, left_variable, right_variable, gate_value, literal_bit}
use Rattle.circuit_plain.specs.Reach.{Reaches}

-- a variable has a bit, where the input at place i has the bit `bits i`
pub data HasValue (net : Netlist) (bits : ℕ → Bool) : ℕ → Bool → Type 0 where
  constant : HasValue net bits 0 false
  input : {v : ℕ} → (i : ℕ) → i < length net.inputs → slice_index net.inputs i ≡ v
      → HasValue net bits v (bits i)
  gate : {a b : Bool} → (g : Gate) → Contains net.gates g → HasValue net bits (left_variable g) a
      → HasValue net bits (right_variable g) b → HasValue net bits g.variable (gate_value g a b)

-- the map gives the constant and the inputs their bits and meets every gate's equation
pub record IsValuation (net : Netlist) (bits : ℕ → Bool) (m : ℕ → Bool) : Type 0 where
  pub constant : m 0 ≡ false
  pub inputs : (i : ℕ) → i < length net.inputs → m (slice_index net.inputs i) ≡ bits i
  pub gates : All (λ g. m g.variable ≡ (literal_bit m g.left && literal_bit m g.right)) net.gates

-- a variable has at most one value
abbrev pub ValuesAreUnique : Type 0
ValuesAreUnique = (net : Netlist) (bits : ℕ → Bool) (v : ℕ) (a b : Bool) → IsNetlist net
    → HasValue net bits v a → HasValue net bits v b → a ≡ b

-- a variable of the least set has a value
abbrev pub GroundedHaveValues : Type 0
GroundedHaveValues = (net : Netlist) (bits : ℕ → Bool) (v : ℕ)
    → IsGrounded net v → (b : Bool) × HasValue net bits v b

-- where two rows agree on the inputs that a variable reaches, it has the same value under both
abbrev pub ValuesFollowReach : Type 0
ValuesFollowReach = (net : Netlist) (bits others : ℕ → Bool) (v : ℕ) (b : Bool)
    → ((i : ℕ) → i < length net.inputs → Reaches net v (slice_index net.inputs i)
    → bits i ≡ others i)
    → HasValue net bits v b → HasValue net others v b

-- a map that meets every gate's equation gives each variable its value
abbrev pub ValuationsAgree : Type 0
ValuationsAgree = (net : Netlist) (bits m : ℕ → Bool) (v : ℕ) (b : Bool)
    → IsValuation net bits m → HasValue net bits v b → m v ≡ b
