-- Which calls are silent: no answer that they log decides.
use Rattle.std.specs.Prelude.{Bool, true, false, Result, Ok}
use Rattle.hint_log.specs.declared.stops.Stop.{Stop}
use Rattle.expansion.specs.declared.tables.Exp.{Exp}
use Rattle.expansion.specs.declared.tables.Exp.TheVariants.{Refuted}

abbrev pub is_silent : Result Exp Stop → Bool
is_silent (Ok (Refuted _)) = false
is_silent _ = true
