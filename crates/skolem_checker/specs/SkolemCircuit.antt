-- Skolem functions given by a circuit (J. Jiang, "Quantifier elimination via functional
-- composition", CAV 2009; for DQBF V. Balabanov, H.-J. Chiang, J. Jiang, "Henkin quantifiers and
-- Boolean formulae", Theor. Comput. Sci. 523, 2014): each output reads only universals that its
-- existential may see, and with the outputs' values every clause is true.
use Rattle.std.specs.Prelude.{◌≡◌, ℕ, ◌<◌, Bool, length, slice_index, Ok, All, Contains}
use Rattle.dq_lits.specs.Literal.{Assignment}
use Rattle.dq_lits.specs.Formula.{Existential, Dqbf}
use Rattle.dq_lits.specs.Henkin.{MatrixHolds}
use Rattle.dq_lits.specs.Skolem.{OutputFunction}
use Rattle.circuit_plain.specs.Ground.{IsGrounded}
use Rattle.circuit_plain.specs.Netlist.{Netlist, literal_variable, signed_bit}
use Rattle.circuit_plain.specs.Reach.{Reaches}
use Rattle.circuit_plain.specs.Value.{HasValue}
use Rattle.aiger_text.specs.Symbol.{SymbolTable}
use Rattle.skolem_checker.specs.Mapping.{Mapping, mapping_of}

-- every gate and every output can be evaluated
pub record IsComplete (net : Netlist) : Type 0 where
  pub gates : All (λ g. IsGrounded net g.variable) net.gates
  pub outputs : All (λ l. IsGrounded net (literal_variable l)) net.outputs

-- a netlist, and what its inputs and outputs stand for
pub record MappedCircuit : Type 0 where
  pub netlist : Netlist
  pub mapping : Mapping

-- each input has the bit of the universal that it stands for
abbrev pub input_bits : Mapping → Assignment → ℕ → Bool
input_bits mapping m i = m (slice_index mapping.inputs i)

-- the literal of the output at a place
abbrev pub output_literal : MappedCircuit → ℕ → ℕ
output_literal c out = slice_index c.netlist.outputs out

-- the output for an existential has a bit, where the universals have those of the assignment
pub record HasOutputValue (c : MappedCircuit) (m : Assignment) (y : ℕ) (b : Bool) : Type 0 where
  pub out : ℕ
  pub in_range : out < length c.mapping.outputs
  pub stands_for : slice_index c.mapping.outputs out ≡ y
  pub variable_bit : Bool
  pub value : HasValue c.netlist (input_bits c.mapping m) (literal_variable (output_literal c out))
      variable_bit
  pub signed : b ≡ signed_bit (output_literal c out) variable_bit

-- the output for an existential reaches the input for a universal, whatever the values
pub record ReadsUniversal (c : MappedCircuit) (y x : ℕ) : Type 0 where
  pub out : ℕ
  pub out_in_range : out < length c.mapping.outputs
  pub out_stands_for : slice_index c.mapping.outputs out ≡ y
  pub input : ℕ
  pub input_in_range : input < length c.mapping.inputs
  pub input_stands_for : slice_index c.mapping.inputs input ≡ x
  pub reaches : Reaches c.netlist (literal_variable (output_literal c out))
      (slice_index c.netlist.inputs input)

-- each existential has its output's value
abbrev pub FollowsCircuit : Dqbf → MappedCircuit → Assignment → Type 0
FollowsCircuit f c m = All (λ y. HasOutputValue c m y.variable (m y.variable)) f.existentials

pub record IsSkolemCircuit (f : Dqbf) (net : Netlist) (symbols : SymbolTable) : Type 0 where
  pub mapping : Mapping
  pub maps : mapping_of f net symbols ≡ Ok mapping
  pub reads_declared : All
      (λ y. (x : ℕ) → ReadsUniversal (record { netlist = net; mapping = mapping }) y.variable x
      → Contains y.sees x) f.existentials
  pub holds : (m : Assignment) → FollowsCircuit f (record { netlist = net; mapping = mapping }) m
      → MatrixHolds f m

-- each existential's function is its output: it has the output's value, and its support holds each
-- universal that the output reads
pub record AreOutputsOf (f : Dqbf) (c : MappedCircuit)
    (output : Existential → OutputFunction) : Type 0 where
  pub values : All (λ y. (m : Assignment) → HasOutputValue c m y.variable ((output y).value m))
      f.existentials
  pub supports : All (λ y. (x : ℕ) → ReadsUniversal c y.variable x → Contains (output y).support x)
      f.existentials
