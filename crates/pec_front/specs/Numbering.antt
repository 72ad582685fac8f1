-- Words of private contracts: the formula's variables for those of a circuit.
use Rattle.std.specs.Prelude.{◌≡◌, ℕ, ◌+◌, ◌-◌, ◌<◌, ◌^◌, nat_lt, length, if◌then◌else◌}
use Rattle.circuit_plain.specs.Ground.{IsGrounded}
use Rattle.circuit_plain.specs.Netlist.{Netlist}
use Rattle.pec_front.specs.BoxLine.{variables_of}
use Rattle.pec_front.specs.Encoding.{numbered_variable}
use Rattle.pec_front.specs.declared.numberings.Numbering.{Numbering}

-- an input's variable by its place: the first ones, so many, have those from 1 on
abbrev pub input_number : ℕ → ℕ → ℕ → ℕ
input_number shared first_further i =
    if nat_lt i shared then 1 + i else first_further + (i - shared)

-- the formula's variable
abbrev pub number_in : Numbering → ℕ → ℕ
number_in n = numbered_variable n.circuit.now (input_number n.shared n.first_further) n.first_gate

-- the circuit's variables are known by place, and numbers fit
pub record IsNumbering (n : Numbering) : Type 0 where
  pub variables : n.variables ≡ variables_of n.circuit.now
  pub shared_fit : n.shared < 2 ^ 32
  pub further_fit : n.first_further + length n.circuit.now.inputs < 2 ^ 32
  pub gates_fit : n.first_gate + length n.circuit.now.gates < 2 ^ 32

-- what can be evaluated has one of the first variables, so many
abbrev pub AreNumbersWithin : Numbering → ℕ → Type 0
AreNumbersWithin n variables =
    (v : ℕ) → IsGrounded n.circuit.now v → number_in n v < variables + 1

-- it numbers a circuit so
pub record IsNumberingOf (n : Numbering) (net : Netlist) (number : ℕ → ℕ) : Type 0 where
  pub is : IsNumbering n
  pub circuit : n.circuit.now ≡ net
  pub numbered : number_in n ≡ number
