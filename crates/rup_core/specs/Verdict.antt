-- What an answer of `derive` says.
use Rattle.std.specs.Prelude.{ℕ, Option, None, Some}
use Rattle.rup_core.specs.declared.derivation.Derived.{Derived}
use Rattle.rup_core.specs.declared.derivation.Derived.TheVariants.{Yes, No}

-- the place of the fault that an answer names
abbrev pub fault_in : Derived → Option ℕ
fault_in Yes = None
fault_in (No place) = Some place
