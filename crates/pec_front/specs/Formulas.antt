-- What the calls that build a design's formula answer.
use Rattle.std.specs.Prelude.{◌≡◌, ℕ, ◌<◌, ◌⊎◌, length, Result, Ok, Err}
use Rattle.aiger_text.specs.declared.files.ReadCircuit.{ReadCircuit}
use Rattle.circuit_plain.specs.Netlist.{Netlist}
use Rattle.dq_formula.specs.declared.formula.TheConstants.{MAX_VARIABLES, MAX_CLAUSES}
use Rattle.dq_lits.specs.Formula.{Dqbf}
use Rattle.pec_front.specs.Boxes.{PartialDesign, IsLawfulDesign}
use Rattle.pec_front.specs.Encoding.{design_formula}
use Rattle.pec_front.specs.Reading.{IsDesignReading}
use Rattle.pec_front.specs.declared.faults.PecFault.TheVariants.{Limit}
use Rattle.pec_front.specs.declared.faults.PecStop.{PecStop}
use Rattle.pec_front.specs.declared.faults.PecStop.TheVariants.{Refused, Memory}

-- more variables or clauses than a formula may have
abbrev pub IsOverLimits : Dqbf → Type 0
IsOverLimits f = (MAX_VARIABLES < f.variables) ⊎ (MAX_CLAUSES < length f.matrix)

-- a design's formula, or its refusal at the line of the implementation's header
abbrev pub IsFormulaOf : PartialDesign → ℕ → Result Dqbf PecStop → Type 0
IsFormulaOf d first (Ok f) = (f ≡ design_formula d) × ¬ IsOverLimits f
IsFormulaOf d first (Err (Refused line name)) =
    (line ≡ first) × (name ≡ Limit) × IsOverLimits (design_formula d)
IsFormulaOf d first (Err Memory) = Unit {0}

-- the formula of the design that an implementation makes with its specification, or the first
-- refusal: the reading's, or else the formula's
abbrev pub IsFormulaReading : Netlist → ReadCircuit → ℕ → Result Dqbf PecStop → Type 0
IsFormulaReading specification imp first (Ok f) =
    (d : PartialDesign) × IsDesignReading specification imp first (Ok d) × IsLawfulDesign d
    × IsFormulaOf d first (Ok f)
IsFormulaReading specification imp first (Err Memory) = Unit {0}
IsFormulaReading specification imp first (Err (Refused line name)) =
    IsDesignReading specification imp first (Err (Refused line name))
    ⊎ ((d : PartialDesign) × IsDesignReading specification imp first (Ok d)
    × IsFormulaOf d first (Err (Refused line name)))
