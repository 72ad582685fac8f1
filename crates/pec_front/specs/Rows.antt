-- Why `BoxesFit` says what it should: under each row of the inputs that both circuits have, boxes
-- that stand in order can be filled, and in one way.
use Rattle.std.specs.Prelude.{◌≡◌, ◌↔◌, ℕ, ◌<◌, Bool, length, slice_index}
use Rattle.circuit_plain.specs.Netlist.{literal_bit}
use Rattle.circuit_plain.specs.Value.{IsValuation}
use Rattle.pec_front.specs.Boxes.{PartialDesign, BoxFunctions, BoxesFit, AreFilled, IsDesign, IsAcyclic, AreBoxes, AllDriven, inputs_of}

-- bits of the inputs that go on a row of those that both circuits have, and valuations of both
-- circuits in which the boxes are filled
pub record FilledRow (d : PartialDesign) (functions : BoxFunctions) (row : ℕ → Bool) : Type 0 where
  pub bits : ℕ → Bool
  pub ms : ℕ → Bool
  pub mi : ℕ → Bool
  pub same : (i : ℕ) → i < inputs_of d → bits i ≡ row i
  pub specified : IsValuation d.specification bits ms
  pub implemented : IsValuation d.implementation bits mi
  pub filled : AreFilled d.boxes functions mi

-- each pair of outputs has one bit
abbrev pub OutputsAgree : PartialDesign → (ℕ → Bool) → (ℕ → Bool) → Type 0
OutputsAgree d ms mi =
    (o : ℕ) → o < length d.specification.outputs
    → literal_bit ms (slice_index d.specification.outputs o)
    ≡ literal_bit mi (slice_index d.implementation.outputs o)

-- whatever the functions, and whatever the bits of the inputs that both circuits have, there are
-- bits for the further inputs under which both circuits have valuations, and the boxes are filled
abbrev pub BoxesExtendEveryRow : Type 0
BoxesExtendEveryRow =
    (d : PartialDesign) (functions : BoxFunctions) (row : ℕ → Bool) → IsDesign d → IsAcyclic d
    → AreBoxes d
    → FilledRow d functions row

-- functions fit exactly where in each row, with the further inputs by the functions, the outputs
-- agree: a row is filled in one way
abbrev pub FitsByRows : Type 0
FitsByRows =
    (d : PartialDesign) (functions : BoxFunctions) → IsDesign d → IsAcyclic d → AreBoxes d
    → AllDriven d
    → BoxesFit d functions
    ↔ ((row : ℕ → Bool) → (r : FilledRow d functions row) × OutputsAgree d r.ms r.mi)
