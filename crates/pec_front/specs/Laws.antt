-- What the encoding is for.
use Rattle.std.specs.Prelude.{◌↔◌}
use Rattle.dq_lits.specs.Formula.{IsWellFormed}
use Rattle.dq_lits.specs.Henkin.{IsTrueFormula}
use Rattle.pec_front.specs.Boxes.{PartialDesign, BoxFunctions, BoxesFit, IsDesign, IsAcyclic, AreBoxes, AllDriven}
use Rattle.pec_front.specs.Encoding.{design_formula}

-- functions that fit make the formula true
abbrev pub FittingBoxesChoose : Type 0
FittingBoxesChoose =
    (d : PartialDesign) (functions : BoxFunctions) → IsDesign d → IsAcyclic d → AreBoxes d
    → BoxesFit d functions → IsTrueFormula (design_formula d)

-- the formula is true exactly where some functions fit
abbrev pub EncodingIsFaithful : Type 0
EncodingIsFaithful =
    (d : PartialDesign) → IsDesign d → IsAcyclic d → AreBoxes d → AllDriven d
    → ((functions : BoxFunctions) × BoxesFit d functions) ↔ IsTrueFormula (design_formula d)

-- numbers are declared once, and each literal of the matrix stands on one of them
abbrev pub DesignFormulasAreWellFormed : Type 0
DesignFormulasAreWellFormed =
    (d : PartialDesign) → IsDesign d → IsAcyclic d → IsWellFormed (design_formula d)
