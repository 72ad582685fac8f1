-- Words of private contracts: the numbers at which the kinds of a formula's variables begin.
use Rattle.std.specs.Prelude.{◌≡◌, ◌+◌, ◌-◌, ◌<◌, ◌≤◌, Option, None, Some}
use Rattle.dq_formula.specs.declared.formula.TheConstants.{MAX_VARIABLES}
use Rattle.pec_front.specs.Boxes.{PartialDesign}
use Rattle.pec_front.specs.Encoding.{first_copy, first_driven, first_specified, first_implemented, first_same, first_agree, end_of}
use Rattle.pec_front.specs.declared.layouts.Layout.{Layout}

pub record IsLayout (d : PartialDesign) (l : Layout) : Type 0 where
  pub copy : l.first_copy ≡ first_copy d
  pub driven : l.first_driven ≡ first_driven d
  pub specified : l.first_specified ≡ first_specified d
  pub implemented : l.first_implemented ≡ first_implemented d
  pub same : l.first_same ≡ first_same d
  pub agree : l.first_agree ≡ first_agree d
  pub end : l.end ≡ end_of d
  pub few : end_of d ≤ MAX_VARIABLES + 1

-- there is one exactly where the formula has few enough variables
abbrev pub IsLayoutOf : PartialDesign → Option Layout → Type 0
IsLayoutOf d None = MAX_VARIABLES < end_of d - 1
IsLayoutOf d (Some l) = IsLayout d l
