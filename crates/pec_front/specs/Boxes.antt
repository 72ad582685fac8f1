-- Partial equivalence: black boxes of an implementation, and functions that fill them (C. Scholl,
-- B. Becker, "Checking equivalence for partial implementations", DAC 2001).
use Rattle.std.specs.Prelude.{◌≡◌, ◌≢◌, ℕ, ◌<◌, ◌≤◌, ◌*◌, ◌==◌, Bool, true, List, map, length, slice_index, slice_index_or}
use Rattle.std.specs.List.{All, AllPairs, flat_map, list_any}
use Rattle.circuit_plain.specs.Netlist.{Netlist, IsNetlist, literal_bit, literal_variable}
use Rattle.circuit_plain.specs.Ground.{IsGrounded}
use Rattle.circuit_plain.specs.Reach.{Reaches}
use Rattle.circuit_plain.specs.Value.{IsValuation}

-- a box, by circuit literals as in AIGER: what it reads, and the inputs of the implementation that
-- it drives
pub record BlackBox : Type 0 where
  pub ins : List ℕ
  pub outs : List ℕ

-- an implementation with its boxes, and its specification; inputs are matched by place, and the
-- implementation has further ones, which the boxes drive
pub record PartialDesign : Type 0 where
  pub specification : Netlist
  pub implementation : Netlist
  pub boxes : List BlackBox

-- by the literal that it drives, a function of what its box reads
abbrev pub BoxFunctions : Type 0
BoxFunctions = ℕ → List Bool → Bool

-- the bits that a box reads
abbrev pub bits_read : (ℕ → Bool) → BlackBox → List Bool
bits_read m box = map (literal_bit m) box.ins

-- each driven input has the bit that its function gives
abbrev pub AreFilled : List BlackBox → BoxFunctions → (ℕ → Bool) → Type 0
AreFilled boxes functions m =
    All (λ box. All (λ out. m (literal_variable out) ≡ functions out (bits_read m box)) box.outs)
    boxes

-- Whatever the inputs are: where both circuits' gates have their values and the boxes are filled
-- with these functions, each pair of outputs agrees.
abbrev pub BoxesFit : PartialDesign → BoxFunctions → Type 0
BoxesFit d functions =
    (bits ms mi : ℕ → Bool) → IsValuation d.specification bits ms
    → IsValuation d.implementation bits mi → AreFilled d.boxes functions mi
    → (o : ℕ) → o < length d.specification.outputs
    → literal_bit ms (slice_index d.specification.outputs o)
    ≡ literal_bit mi (slice_index d.implementation.outputs o)

-- what the boxes read, end to end
abbrev pub signals : List BlackBox → List ℕ
signals boxes = flat_map (λ box. box.ins) boxes

-- the literals that boxes drive, end to end
abbrev pub driven : List BlackBox → List ℕ
driven boxes = flat_map (λ box. box.outs) boxes

-- how many inputs both circuits have
abbrev pub inputs_of : PartialDesign → ℕ
inputs_of d = length d.specification.inputs

-- what a design keeps
pub record IsDesign (d : PartialDesign) : Type 0 where
  pub specification : IsNetlist d.specification
  pub implementation : IsNetlist d.implementation
  pub inputs : length d.specification.inputs ≤ length d.implementation.inputs
  pub outputs : length d.specification.outputs ≡ length d.implementation.outputs
  pub specified_outputs : (o : ℕ) → o < length d.specification.outputs
      → IsGrounded d.specification (literal_variable (slice_index d.specification.outputs o))
  pub implemented_outputs : (o : ℕ) → o < length d.implementation.outputs
      → IsGrounded d.implementation (literal_variable (slice_index d.implementation.outputs o))
  pub signals_stand : (j : ℕ) → j < length (signals d.boxes)
      → IsGrounded d.implementation (literal_variable (slice_index (signals d.boxes) j))

-- every gate of both circuits is grounded
pub record IsAcyclic (d : PartialDesign) : Type 0 where
  pub specification : All (λ g. IsGrounded d.specification g.variable) d.specification.gates
  pub implementation : All (λ g. IsGrounded d.implementation g.variable) d.implementation.gates

-- a literal is that of a further input
abbrev pub IsFurtherInput : PartialDesign → ℕ → Type 0
IsFurtherInput d out =
    (i : ℕ) × (inputs_of d ≤ i) × (i < length d.implementation.inputs)
    × (out ≡ 2 * slice_index d.implementation.inputs i)

-- what a box reads reaches nothing that it drives itself, or that a later box drives
abbrev pub StandInOrder : Netlist → List BlackBox → Type 0
StandInOrder net boxes =
    (i j : ℕ) (default : BlackBox) → i ≤ j → j < length boxes
    → All (λ l. All (λ out. ¬ Reaches net (literal_variable l) (literal_variable out))
    (slice_index_or boxes j default).outs) (slice_index_or boxes i default).ins

-- what the boxes of a design keep
pub record AreBoxes (d : PartialDesign) : Type 0 where
  pub further : All (IsFurtherInput d) (driven d.boxes)
  pub driven_once : AllPairs (λ a b. a ≢ b) (driven d.boxes)
  pub ordered : StandInOrder d.implementation d.boxes

-- each further input is driven
abbrev pub AllDriven : PartialDesign → Type 0
AllDriven d =
    (i : ℕ) → inputs_of d ≤ i → i < length d.implementation.inputs
    → list_any (λ box. list_any (λ o. o == 2 * slice_index d.implementation.inputs i) box.outs)
    d.boxes ≡ true

-- all that is asked of a design
pub record IsLawfulDesign (d : PartialDesign) : Type 0 where
  pub is_design : IsDesign d
  pub acyclic : IsAcyclic d
  pub boxes : AreBoxes d
  pub all_driven : AllDriven d
