-- Functions of boxes that Skolem functions of the formula give.
use Rattle.std.specs.Prelude.{ℕ, ◌*◌, ◌==◌, Bool, false, List, slice_index_or}
use Rattle.std.specs.List.{position_or_len}
use Rattle.dq_lits.specs.Formula.{Existential}
use Rattle.dq_lits.specs.Skolem.{OutputFunction, AreSkolemFunctions}
use Rattle.aiger_text.specs.Symbol.{SymbolTable}
use Rattle.circuit_plain.specs.Netlist.{Netlist, IsNetlist}
use Rattle.skolem_checker.specs.SkolemCircuit.{IsComplete, IsSkolemCircuit, AreOutputsOf}
use Rattle.pec_front.specs.Boxes.{PartialDesign, BoxFunctions, BoxesFit, IsDesign, IsAcyclic, AreBoxes, AllDriven}
use Rattle.pec_front.specs.Encoding.{design_formula, driven_existential}

-- by variable, the bit of a list that stands at the variable's place
abbrev pub placed_at : List ℕ → List Bool → ℕ → Bool
placed_at variables bits v = slice_index_or bits (position_or_len (λ x. x == v) variables) false

-- the existential of the input that a literal stands for
abbrev pub driven_by_literal : PartialDesign → ℕ → Existential
driven_by_literal d out =
    driven_existential d (position_or_len (λ v. 2 * v == out) d.implementation.inputs)

-- by the literal that it drives, the output for the input's existential, over what its box reads
abbrev pub output_functions : PartialDesign → (Existential → OutputFunction) → BoxFunctions
output_functions d output out bits =
    (output (driven_by_literal d out)).value (placed_at (driven_by_literal d out).sees bits)

-- where outputs are Skolem functions of the formula, those for driven inputs are functions that fit
abbrev pub OutputsAreBoxes : Type 0
OutputsAreBoxes =
    (d : PartialDesign) (output : Existential → OutputFunction) → IsDesign d → IsAcyclic d
    → AreBoxes d → AllDriven d → AreSkolemFunctions (design_formula d) output
    → BoxesFit d (output_functions d output)

-- where a circuit certifies the formula, its outputs for driven inputs are functions that fit
abbrev pub CertifiedBoxesFit : Type 0
CertifiedBoxesFit =
    (d : PartialDesign) (net : Netlist) (symbols : SymbolTable) → IsDesign d → IsAcyclic d
    → AreBoxes d → AllDriven d → IsNetlist net → IsComplete net
    → (h : IsSkolemCircuit (design_formula d) net symbols)
    → (output : Existential → OutputFunction)
    × AreOutputsOf (design_formula d) (record { netlist = net; mapping = h.mapping }) output
    × BoxesFit d (output_functions d output)
