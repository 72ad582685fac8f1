-- What settled circuits keep.
use Rattle.std.specs.Prelude.{List}
use Rattle.dq_lits.specs.Formula.{Dqbf}
use Rattle.aiger_text.specs.Spellable.{IsSpellable}
use Rattle.aiger_text.specs.declared.files.AagFile.{AagFile}
use Rattle.dq_prep.specs.declared.traces.Taken.{Taken}
use Rattle.lifted_proofs.specs.SettledCircuits.{IsSettledFile}

-- a text can hold the settled file where it can hold the file
abbrev pub SettledFilesAreSpellable : Type 0
SettledFilesAreSpellable =
    (f : Dqbf) (units : List Taken) (old new : AagFile) → IsSettledFile f units old new
    → IsSpellable old → IsSpellable new
