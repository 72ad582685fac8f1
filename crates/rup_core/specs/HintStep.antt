-- What a hint does.
use Rattle.std.specs.Prelude.{◌≡◌, List, ◌∷◌}
use Rattle.dq_lits.specs.Literal.{Literal}
use Rattle.dq_lits.specs.Derivation.{ClauseStatus, falsified, unit, stuck}
use Rattle.rup_core.specs.declared.progress.Progress.{Progress}
use Rattle.rup_core.specs.declared.progress.Progress.TheVariants.{Going, Refuted, Faulty}

-- by the status of its clause, where all hints before it propagate
abbrev pub IsStep : ClauseStatus → List Literal → Progress → List Literal → Type 0
IsStep falsified trues next now = next ≡ Refuted
IsStep (unit l) trues next now = (next ≡ Going) × (now ≡ l ∷ trues)
IsStep stuck trues next now = next ≡ Faulty
