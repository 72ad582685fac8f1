-- Functions of boxes that a choice of Henkin functions gives.
use Rattle.std.specs.Prelude.{◌≡◌, ℕ, ◌-◌, ◌*◌, ◌==◌, ◌<◌, ◌≤◌, nat_lt, Bool, length, map, slice_index, if◌then◌else◌}
use Rattle.std.specs.List.{list_any, position_or_len}
use Rattle.dq_lits.specs.Formula.{HasLawfulPrefix}
use Rattle.dq_lits.specs.Henkin.{HenkinChoice, Solves, same_bits}
use Rattle.circuit_plain.specs.Netlist.{literal_bit}
use Rattle.circuit_plain.specs.Value.{IsValuation}
use Rattle.pec_front.specs.Boxes.{PartialDesign, BoxFunctions, BoxesFit, IsDesign, AllDriven, signals, inputs_of}
use Rattle.pec_front.specs.Encoding.{design_formula, driven_existential, first_copy}

-- the inputs' bits, and on the copies those of the signals
abbrev pub signal_bits : PartialDesign → (ℕ → Bool) → (ℕ → Bool) → ℕ → Bool
signal_bits d bits mi v =
    if nat_lt v (first_copy d) then bits (v - 1)
    else literal_bit mi (slice_index (signals d.boxes) (v - first_copy d))

-- each driven input has the bit that its existential's function gives for what its box reads
abbrev pub AreDriven : PartialDesign → HenkinChoice → (ℕ → Bool) → (ℕ → Bool) → Type 0
AreDriven d choice bits mi =
    (i : ℕ) → inputs_of d ≤ i → i < length d.implementation.inputs
    → mi (slice_index d.implementation.inputs i)
    ≡ list_any (same_bits (map (signal_bits d bits mi) (driven_existential d i).sees))
    (choice (driven_existential d i))

-- where a choice solves the formula, and its functions fill the boxes, the outputs agree
abbrev pub ChoicesFillBoxes : Type 0
ChoicesFillBoxes =
    (d : PartialDesign) (choice : HenkinChoice) → IsDesign d → HasLawfulPrefix (design_formula d)
    → Solves choice (design_formula d) → (bits ms mi : ℕ → Bool)
    → IsValuation d.specification bits ms → IsValuation d.implementation bits mi
    → AreDriven d choice bits mi → (o : ℕ) → o < length d.specification.outputs
    → literal_bit ms (slice_index d.specification.outputs o)
    ≡ literal_bit mi (slice_index d.implementation.outputs o)

-- by the literal that it drives, the function that a choice gives the input's existential
abbrev pub chosen_functions : PartialDesign → HenkinChoice → BoxFunctions
chosen_functions d choice out bits =
    list_any (same_bits bits)
    (choice (driven_existential d (position_or_len (λ v. 2 * v == out) d.implementation.inputs)))

-- a choice that solves the formula has functions that fit
abbrev pub ChosenBoxesFit : Type 0
ChosenBoxesFit =
    (d : PartialDesign) (choice : HenkinChoice) → IsDesign d → AllDriven d
    → HasLawfulPrefix (design_formula d) → Solves choice (design_formula d)
    → BoxesFit d (chosen_functions d choice)
