-- Words of private contracts: a file's text.
use Rattle.std.specs.Prelude.{◌≡◌, ◌⊎◌, ℕ, List, Vec, Result, Ok, Err}
use Rattle.std.specs.declared.alloc.Global.{Global}
use Rattle.dq_io.specs.State.{FilesState}
use Rattle.dq_lits.specs.Formula.{Dqbf}
use Rattle.dq_runs.specs.FileTexts.{IsShortText, IsUnreadable, IsTooLong, PickedOnce}
use Rattle.pec_runs.specs.DesignFiles.{max_circuit}
use Rattle.pec_runs.specs.DesignTexts.{IsTextReading}
use Rattle.pec_runs.specs.declared.designs.DesignStop.{DesignStop}
use Rattle.pec_runs.specs.declared.designs.DesignStop.TheVariants.{Memory, Said}
use Rattle.pec_runs.specs.declared.designs.NoDesign.{NoDesign}
use Rattle.pec_runs.specs.declared.designs.NoDesign.TheVariants.{Unreadable, LongImp}

-- what stops the reading of a file, where `long` is said of one that is too long
abbrev pub IsStopped : FilesState → FilesState → List ℕ → NoDesign → DesignStop → Type 0
IsStopped before now name long Memory = Unit {0}
IsStopped before now name long (Said said) =
    ((said ≡ Unreadable) × IsUnreadable before now name × PickedOnce before now)
    ⊎ ((said ≡ long) × IsTooLong max_circuit before now name × PickedOnce before now
    × (now.faults ≡ before.faults))

-- the file's text, or what is said of it, where `long` is said of one that is too long
abbrev pub IsTextRead : FilesState → FilesState → List ℕ → NoDesign
    → Result (Vec ℕ Global) DesignStop → Type 0
IsTextRead before now name long (Ok text) =
    IsShortText max_circuit (before.held name) text.items × PickedOnce before now
IsTextRead before now name long (Err stop) = IsStopped before now name long stop

abbrev pub IsUnreadableText : Result (Vec ℕ Global) DesignStop → Type 0
IsUnreadableText (Ok _) = ⊥
IsUnreadableText (Err Memory) = ⊥
IsUnreadableText (Err (Said said)) = said ≡ Unreadable

-- what the implementation's file gives behind a specification's text, or what is said of it
abbrev pub IsReadBehind : FilesState → FilesState → List ℕ → List ℕ → Result Dqbf DesignStop
    → Type 0
IsReadBehind before now spec imp result =
    ((text : List ℕ) × IsShortText max_circuit (before.held imp) text × PickedOnce before now
    × IsTextReading spec text result)
    ⊎ ((stop : DesignStop) × (result ≡ Err stop) × IsStopped before now imp LongImp stop)
