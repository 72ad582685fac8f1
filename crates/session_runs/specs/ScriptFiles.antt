-- Words of private contracts: what is read of a script's file, and what is due behind a formula.
use Rattle.std.specs.Prelude.{◌≡◌, ◌≢◌, ◌⊎◌, ◌<◌, ℕ, List, [], Vec, Result, Ok, Err}
use Rattle.std.specs.declared.alloc.Global.{Global}
use Rattle.dq_io.specs.State.{FilesState}
use Rattle.dq_lits.specs.Formula.{Dqbf}
use Rattle.dq_runs.specs.FileTexts.{IsShortText, IsUnreadable, IsTooLong, PickedOnce}
use Rattle.dq_runs.specs.FormulaFiles.{formula_line, max_formula}
use Rattle.dq_runs.specs.Printed.{Printed, printed}
use Rattle.dq_runs.specs.declared.formulas.NoFormula.{NoFormula as FormulaReport}
use Rattle.dq_runs.specs.declared.outputs.Output.{Output}
use Rattle.hint_log.specs.Entries.{ProofLog}
use Rattle.script_text.specs.Commands.{ScriptCommand}
use Rattle.script_text.specs.Reading.{read_script}
use Rattle.script_text.specs.declared.faults.ScriptFault.{ScriptFault}
use Rattle.session_runs.specs.Blocks.{Search, blocks_text, printed_session}
use Rattle.session_runs.specs.Searches.{AreSearched}
use Rattle.session_runs.specs.SessionFiles.{max_script, IsRead, IsScriptOf, IsRefusalOf, IsWorkOf, session_line}
use Rattle.session_runs.specs.declared.files.NoSession.{NoSession}
use Rattle.session_runs.specs.declared.files.NoSession.TheVariants.{NoFormula, UnreadableScript, LongScript, RefusedScript}
use Rattle.session_runs.specs.declared.files.SessionStop.{SessionStop}
use Rattle.session_runs.specs.declared.files.SessionStop.TheVariants.{Memory, Said}

-- the blocks of the searches of these commands
pub record IsSessionText (f : Dqbf) (commands : List ScriptCommand) (log : ProofLog)
    (text : List ℕ) : Type 0 where
  pub searches : List Search
  pub searched : AreSearched f commands log searches
  pub is : text ≡ blocks_text 1 searches

-- the file's text, or why there is none
abbrev pub IsScriptRead : FilesState → FilesState → List ℕ → Result (Vec ℕ Global) SessionStop
    → Type 0
IsScriptRead before now name (Ok text) =
    IsShortText max_script (before.held name) text.items × PickedOnce before now
IsScriptRead before now name (Err Memory) = Unit {0}
IsScriptRead before now name (Err (Said UnreadableScript)) =
    IsUnreadable before now name × PickedOnce before now
IsScriptRead before now name (Err (Said LongScript)) =
    IsTooLong max_script before now name × PickedOnce before now
IsScriptRead before now name (Err (Said (NoFormula said))) = ⊥
IsScriptRead before now name (Err (Said (RefusedScript line fault))) = ⊥

abbrev pub IsUnreadableScript : Result (Vec ℕ Global) SessionStop → Type 0
IsUnreadableScript (Ok _) = ⊥
IsUnreadableScript (Err Memory) = ⊥
IsUnreadableScript (Err (Said said)) = said ≡ UnreadableScript

-- what a text comes to, of a script for the formula
abbrev pub IsTextDue : Dqbf → List ℕ → ProofLog → Printed → Type 0
IsTextDue f text log p =
    ((line : ℕ) × (name : ScriptFault)
    × (read_script f text ≡ Err (record { line = line; name = name }))
    × (p ≡ session_line (RefusedScript line name)))
    ⊎ ((commands : List ScriptCommand) × (searches : List Search)
    × (read_script f text ≡ Ok commands) × AreSearched f commands log searches
    × (p ≡ printed_session searches))

pub record IsTextOutput (f : Dqbf) (text : List ℕ) (log : ProofLog) (output : Output) : Type 0 where
  pub due : IsTextDue f text log (printed output)

-- the log is empty, or of work on the text's commands
abbrev pub IsTextLog : Dqbf → List ℕ → ProofLog → Type 0
IsTextLog f text log =
    (log.entries ≡ [])
    ⊎ ((commands : List ScriptCommand) × (read_script f text ≡ Ok commands)
    × IsWorkOf f commands log)

-- this is to be said of the script's file, where the formula's gave a formula
abbrev pub IsNoScript : FilesState → FilesState → List ℕ → Dqbf → NoSession → Type 0
IsNoScript before now script f (NoFormula said) = ⊥
IsNoScript before now script f UnreadableScript =
    IsUnreadable before now script × PickedOnce before now
IsNoScript before now script f LongScript =
    IsTooLong max_script before now script × PickedOnce before now
IsNoScript before now script f (RefusedScript line name) =
    IsRefusalOf (before.held script) f line name × PickedOnce before now

-- what is due behind a formula
abbrev pub IsScriptDue : FilesState → FilesState → Dqbf → ProofLog → List ℕ → Printed → Type 0
IsScriptDue before now f log script p =
    ((said : NoSession) × IsNoScript before now script f said × (p ≡ session_line said))
    ⊎ ((commands : List ScriptCommand) × (searches : List Search)
    × IsScriptOf (before.held script) f commands × AreSearched f commands log searches
    × PickedOnce before now × (p ≡ printed_session searches))

pub record IsBehindFormula (before now : FilesState) (f : Dqbf) (log : ProofLog)
    (script : List ℕ) (output : Output) : Type 0 where
  pub due : IsScriptDue before now f log script (printed output)
  pub long : output.status ≡ 6 → max_formula < now.given
  pub unfaulted : output.status ≢ 3 → now.faults ≡ before.faults

abbrev pub IsLogBehind : FilesState → List ℕ → Dqbf → ProofLog → Type 0
IsLogBehind files script f log =
    (log.entries ≡ [])
    ⊎ ((commands : List ScriptCommand) × IsScriptOf (files.held script) f commands
    × IsWorkOf f commands log)

-- what is due where the formula's text has a fault, which counts once the script was read
abbrev pub IsFaultDue : FilesState → FilesState → FormulaReport → List ℕ → Printed → Type 0
IsFaultDue before now fault script p =
    (IsRead max_script (before.held script) × PickedOnce before now × (p ≡ formula_line fault))
    ⊎ (IsUnreadable before now script × PickedOnce before now
    × (p ≡ session_line UnreadableScript))
    ⊎ (IsTooLong max_script before now script × PickedOnce before now
    × (p ≡ session_line LongScript))

pub record IsBehindFault (before now : FilesState) (fault : FormulaReport) (script : List ℕ)
    (output : Output) : Type 0 where
  pub due : IsFaultDue before now fault script (printed output)
  pub long : output.status ≡ 6 → max_formula < now.given
  pub unfaulted : output.status ≢ 3 → now.faults ≡ before.faults
