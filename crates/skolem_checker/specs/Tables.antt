-- Words of private contracts: the tables by which the checks find a variable's circuit literal, and
-- what they compute by them.
use Rattle.std.specs.Prelude.{◌≡◌, ◌≢◌, ℕ, ◌+◌, ◌*◌, ◌/◌, ◌%◌, ◌<◌, ◌==◌, Bool, true, List, length, slice_index, All, AllPairs, Contains, map}
use Rattle.std.specs.Int.{bit_at}
use Rattle.std.specs.List.{position_or_len, list_all}
use Rattle.dq_lits.specs.Literal.{Assignment, clause_true}
use Rattle.dq_lits.specs.Formula.{Dqbf}
use Rattle.dq_formula.specs.Prefix.{existential_variables}
use Rattle.circuit_plain.specs.Blocks.{lane_bit}
use Rattle.circuit_plain.specs.Netlist.{Netlist, literal_variable, literal_bit}
use Rattle.circuit_plain.specs.Value.{IsValuation}
use Rattle.circuit_plain.specs.Reach.{Reaches}
use Rattle.skolem_checker.specs.Mapping.{Mapping}

-- each list names each variable that it is to name once
pub record IsOneToOne (declared variables : List ℕ) : Type 0 where
  pub same_length : length variables ≡ length declared
  pub distinct : AllPairs (λ v w. v ≢ w) variables
  pub declared_alone : All (Contains declared) variables
  pub onto : (v : ℕ) → Contains declared v → Contains variables v

-- the value written at each key
abbrev pub IsWritten : List ℕ → List ℕ → List ℕ → Type 0
IsWritten table keys values =
    (i : ℕ) → i < length keys → slice_index table (slice_index keys i) ≡ slice_index values i

-- the numbers from 0 on
pub record AreNumbers (numbers : List ℕ) (n : ℕ) : Type 0 where
  pub same_length : length numbers ≡ n
  pub at : (i : ℕ) → i < n → slice_index numbers i ≡ i

-- elsewhere the table stays
abbrev pub IsKeptElsewhere : List ℕ → List ℕ → List ℕ → Type 0
IsKeptElsewhere old new keys = (v : ℕ) → ¬ Contains keys v → slice_index new v ≡ slice_index old v

-- inputs are as many as universals and stand for each of them, and so outputs for existentials
pub record IsMapping (f : Dqbf) (net : Netlist) (mapping : Mapping) : Type 0 where
  pub inputs_length : length net.inputs ≡ length f.universals
  pub outputs_length : length net.outputs ≡ length f.existentials
  pub inputs : IsOneToOne f.universals mapping.inputs
  pub outputs : IsOneToOne (existential_variables f) mapping.outputs

-- the literal of each variable
pub record IsLiteralTable (f : Dqbf) (net : Netlist) (mapping : Mapping)
    (literals : List ℕ) : Type 0 where
  pub a_literal_a_variable : length literals ≡ f.variables + 1
  pub input_literals : (i : ℕ) → i < length mapping.inputs
      → slice_index literals (slice_index mapping.inputs i) ≡ 2 * slice_index net.inputs i
  pub output_literals : IsWritten literals mapping.outputs net.outputs

-- the place of each existential's output
pub record IsPlaceTable (f : Dqbf) (mapping : Mapping) (places : List ℕ) : Type 0 where
  pub a_place_a_variable : length places ≡ f.variables + 1
  pub output_places : (o : ℕ) → o < length mapping.outputs
      → slice_index places (slice_index mapping.outputs o) ≡ o

pub record AreTables (f : Dqbf) (net : Netlist) (mapping : Mapping)
    (literals places : List ℕ) : Type 0 where
  pub mapped : IsMapping f net mapping
  pub by_literal : IsLiteralTable f net mapping literals
  pub by_place : IsPlaceTable f mapping places

-- the output for an existential reaches the input for a universal, by the tables
abbrev pub ReadsByTables : Netlist → List ℕ → List ℕ → ℕ → ℕ → Type 0
ReadsByTables net literals places y x =
    Reaches net (literal_variable (slice_index net.outputs (slice_index places y)))
    (literal_variable (slice_index literals x))

-- the same by marks of what is reached
abbrev pub ReadsByMarks : (ℕ → Bool) → List ℕ → ℕ → ℕ → Type 0
ReadsByMarks marks literals y x = marks (literal_variable (slice_index literals x)) ≡ true

-- the bit of a variable is that of its circuit literal
abbrev pub circuit_assignment : List ℕ → (ℕ → Bool) → Assignment
circuit_assignment literals values v = literal_bit values (slice_index literals v)

-- the bits of the inputs under the row of a number
abbrev pub AreRowBits : List ℕ → ℕ → (ℕ → Bool) → ℕ → Type 0
AreRowBits places k bits end = (i : ℕ) → i < end → bits i ≡ (bit_at k (slice_index places i) == 1)

-- the place of each input's universal
abbrev pub universal_places : Dqbf → Mapping → List ℕ
universal_places f mapping = map (λ x. position_or_len (λ u. u == x) f.universals) mapping.inputs

-- of a block of rows the bit of the row at place r, in four lanes of 64
abbrev pub row_bit : List ℕ → ℕ → Bool
row_bit lanes r = lane_bit lanes (r / 64) (r % 64)

-- the clauses' test under the row of a number
pub record RowTest (f : Dqbf) (net : Netlist) (literals places : List ℕ) (k : ℕ)
    (holds : Bool) : Type 0 where
  pub bits : ℕ → Bool
  pub values : ℕ → Bool
  pub are_bits : AreRowBits places k bits (length places)
  pub valuation : IsValuation net bits values
  pub is : holds ≡ list_all (clause_true (circuit_assignment literals values)) f.matrix

-- a variable has a literal in the table, and that literal a place among the values
pub record HasLiteral (literals : List ℕ) (n v : ℕ) : Type 0 where
  pub in_table : v < length literals
  pub in_values : literal_variable (slice_index literals v) < n
