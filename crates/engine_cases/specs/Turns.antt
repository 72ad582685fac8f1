-- Which turns another one may follow.
use Rattle.std.specs.Prelude.{Bool, true, false}
use Rattle.engine_cases.specs.declared.circuits.Told.{Told}
use Rattle.engine_cases.specs.declared.circuits.Told.TheVariants.{Fails}

abbrev pub may_go_on : Told → Bool
may_go_on (Fails _ _ _) = true
may_go_on _ = false
