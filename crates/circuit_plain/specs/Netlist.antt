-- The combinational netlist of ASCII AIGER: inputs, outputs and and-gates over numbered variables
-- (A. Biere, "The AIGER And-Inverter Graph (AIG) Format", 2007; A. Biere, K. Heljanko, S. Wieringa,
-- "AIGER 1.9 And Beyond", FMV report 11/2, 2011).
use Rattle.std.specs.Prelude.{◌≡◌, ◌≢◌, ℕ, ◌+◌, ◌*◌, ◌/◌, ◌%◌, ◌^◌, ◌<◌, ◌≤◌, ◌⊎◌, ◌==◌, ◌&&◌, Bool, not, List, map, if◌then◌else◌, All, AllPairs, Contains, length, slice_index, slice_index_or}
use Rattle.circuit_plain.specs.declared.circuits.Gate.{Gate}

-- literal 2v stands for variable v
abbrev pub literal_variable : ℕ → ℕ
literal_variable l = l / 2

-- literal 2v + 1 stands for the negation of variable v
abbrev pub literal_negated : ℕ → Bool
literal_negated l = l % 2 == 1

-- the bit of a literal whose variable has this bit
abbrev pub signed_bit : ℕ → Bool → Bool
signed_bit l bit = if literal_negated l then not bit else bit

-- the bit of a literal under a map from variables to bits
abbrev pub literal_bit : (ℕ → Bool) → ℕ → Bool
literal_bit m l = signed_bit l (m (literal_variable l))

-- variables are numbered from 1 to `max_var`; variable 0 is the constant false, so that literal 0
-- is false and literal 1 is true; outputs are literals, and a gate has its variable and two
-- literals
pub record Netlist : Type 0 where
  pub max_var : ℕ
  pub inputs : List ℕ
  pub outputs : List ℕ
  pub gates : List Gate

abbrev pub variable_of_gate : Gate → ℕ
variable_of_gate g = g.variable

-- the variables that its right sides stand on
abbrev pub left_variable : Gate → ℕ
left_variable g = literal_variable g.left

abbrev pub right_variable : Gate → ℕ
right_variable g = literal_variable g.right

-- the conjunction of its right sides, where their variables have these bits
abbrev pub gate_value : Gate → Bool → Bool → Bool
gate_value g a b = signed_bit g.left a && signed_bit g.right b

-- the variables of the gates, in their order
abbrev pub gate_variables : Netlist → List ℕ
gate_variables net = map variable_of_gate net.gates

-- the gate at a place, counted from 0
abbrev pub gate_at : Netlist → ℕ → Gate
gate_at net place = slice_index_or net.gates place no_gate
  where
    no_gate : Gate
    no_gate = record { variable = 0; left = 0; right = 0 }

-- the variable is an input or a gate of the netlist
abbrev pub IsDefined : Netlist → ℕ → Type 0
IsDefined net v = Contains net.inputs v ⊎ Contains (gate_variables net) v

-- the numbers in range
abbrev pub IsVariable : ℕ → ℕ → Type 0
IsVariable max_var v = (1 ≤ v) × (v ≤ max_var)

abbrev pub IsLiteral : ℕ → ℕ → Type 0
IsLiteral max_var l = l ≤ 2 * max_var + 1

pub record IsGate (max_var : ℕ) (g : Gate) : Type 0 where
  pub variable : IsVariable max_var g.variable
  pub left : IsLiteral max_var g.left
  pub right : IsLiteral max_var g.right

-- what each netlist of a `Circuit` keeps: its numbers are in range, and each variable is an input
-- or a gate at most once
pub record IsNetlist (net : Netlist) : Type 0 where
  pub numbered : net.max_var < 2 ^ 62
  pub inputs_fit : All (IsVariable net.max_var) net.inputs
  pub outputs_fit : All (IsLiteral net.max_var) net.outputs
  pub gates_fit : All (IsGate net.max_var) net.gates
  pub inputs_once : AllPairs (λ x y. x ≢ y) net.inputs
  pub gates_once : AllPairs (λ g h. g.variable ≢ h.variable) net.gates
  pub apart : All (λ x. All (λ g. x ≢ g.variable) net.gates) net.inputs

-- the numbers from 1 on, in order
abbrev pub AreFirstNumbers : List ℕ → Type 0
AreFirstNumbers numbers = (k : ℕ) → k < length numbers → slice_index numbers k ≡ k + 1

-- the gates have the variables from this one on, in order
abbrev pub HaveVariablesFrom : ℕ → List Gate → Type 0
HaveVariablesFrom first gates =
    (k : ℕ) (none : Gate) → k < length gates → (slice_index_or gates k none).variable ≡ first + k

-- the variables have the least numbers, as in AIGER's binary format: the inputs those from 1 on, the
-- gates those behind them, both in order, and there are no others
pub record HasLeastNumbers (net : Netlist) : Type 0 where
  pub count : net.max_var ≡ length net.inputs + length net.gates
  pub inputs : AreFirstNumbers net.inputs
  pub gates : HaveVariablesFrom (length net.inputs + 1) net.gates
