-- What is due for the files of a formula and of a script, which has searches over it.
use Rattle.std.specs.Prelude.{◌≡◌, ◌≢◌, ◌⊎◌, ◌<◌, ◌^◌, ℕ, List, [], Ok, Err, codes}
use Rattle.dq_io.specs.Files.{Holding}
use Rattle.dq_io.specs.State.{FilesState}
use Rattle.dq_lits.specs.Formula.{Dqbf}
use Rattle.dq_runs.specs.FileTexts.{IsShortText, IsUnreadable, IsTooLong, PickedOnce, PickedTwice}
use Rattle.dq_runs.specs.FormulaFiles.{IsFormulaOf, IsFaultOf, formula_line, max_formula}
use Rattle.dq_runs.specs.Printed.{Printed, printed, unreadable_line, long_line, fault_line}
use Rattle.dq_runs.specs.declared.formulas.NoFormula.TheVariants.{Unreadable, TooLong, Refused}
use Rattle.dq_runs.specs.declared.outputs.Output.{Output}
use Rattle.hint_log.specs.Entries.{Entry, ProofLog}
use Rattle.hint_log.specs.Growth.{Each}
use Rattle.hint_log.specs.ProductiveLog.{IsProductiveLog, IsDerivedByHints, IsNewLemma}
use Rattle.repair_loop.specs.SearchStates.{IsKept}
use Rattle.script_text.specs.Commands.{ScriptCommand}
use Rattle.script_text.specs.Reading.{read_script}
use Rattle.script_text.specs.declared.faults.ScriptFault.{ScriptFault}
use Rattle.session_runs.specs.Numbering.{all_clauses}
use Rattle.session_runs.specs.Blocks.{Search, printed_session}
use Rattle.session_runs.specs.FaultNames.{script_fault_name}
use Rattle.session_runs.specs.Searches.{AreSearched}
use Rattle.session_runs.specs.declared.files.NoSession.{NoSession}
use Rattle.session_runs.specs.declared.files.NoSession.TheVariants.{NoFormula, UnreadableScript, LongScript, RefusedScript}

-- the most bytes of a script
abbrev pub max_script : ℕ
max_script = 2 ^ 30

-- a text of at most so many bytes
abbrev pub IsRead : ℕ → Holding → Type 0
IsRead limit holding = (text : List ℕ) × IsShortText limit holding text

-- the file's text is that of a script for the formula, which has these commands
pub record IsScriptOf (holding : Holding) (f : Dqbf) (commands : List ScriptCommand) : Type 0 where
  pub text : List ℕ
  pub read : IsShortText max_script holding text
  pub reading : read_script f text ≡ Ok commands

-- it has this first refusal
pub record IsRefusalOf (holding : Holding) (f : Dqbf) (line : ℕ) (name : ScriptFault) : Type 0 where
  pub text : List ℕ
  pub read : IsShortText max_script holding text
  pub refused : read_script f text ≡ Err (record { line = line; name = name })

-- this is to be said of the files of these names, of which the formula's comes first; both are read
-- before a refusal of either text
abbrev pub IsNoSession : FilesState → FilesState → List ℕ → List ℕ → NoSession → Type 0
IsNoSession before now file script (NoFormula Unreadable) =
    IsUnreadable before now file × PickedOnce before now
IsNoSession before now file script (NoFormula TooLong) =
    IsTooLong max_formula before now file × PickedOnce before now
IsNoSession before now file script UnreadableScript =
    IsRead max_formula (before.held file) × IsUnreadable before now script
    × PickedTwice before now
IsNoSession before now file script LongScript =
    IsRead max_formula (before.held file) × IsTooLong max_script before now script
    × PickedTwice before now
IsNoSession before now file script (NoFormula (Refused line name)) =
    IsFaultOf (before.held file) (record { line = line; name = name })
    × IsRead max_script (before.held script) × PickedTwice before now
IsNoSession before now file script (RefusedScript line name) =
    ((f : Dqbf) × IsFormulaOf (before.held file) f
    × IsRefusalOf (before.held script) f line name)
    × PickedTwice before now

-- how it is said
abbrev pub session_line : NoSession → Printed
session_line (NoFormula said) = formula_line said
session_line UnreadableScript = unreadable_line
session_line LongScript = long_line (codes "script")
session_line (RefusedScript line name) = fault_line 7 (codes "script") line (script_fault_name name)

-- the searches of the files' script on their formula, each written as its block
pub record IsSessionOf (before now : FilesState) (log : ProofLog) (file script : List ℕ)
    (p : Printed) : Type 0 where
  pub f : Dqbf
  pub commands : List ScriptCommand
  pub searches : List Search
  pub formula : IsFormulaOf (before.held file) f
  pub script_is : IsScriptOf (before.held script) f commands
  pub searched : AreSearched f commands log searches
  pub picked : PickedTwice before now
  pub is_printed : p ≡ printed_session searches

abbrev pub IsSessionDue : FilesState → FilesState → ProofLog → List ℕ → List ℕ → Printed → Type 0
IsSessionDue before now log file script p =
    ((said : NoSession) × IsNoSession before now file script said × (p ≡ session_line said))
    ⊎ IsSessionOf before now log file script p

-- it is due, and no fault of the files is passed over
pub record IsSessionOutput (before now : FilesState) (log : ProofLog) (file script : List ℕ)
    (output : Output) : Type 0 where
  pub due : IsSessionDue before now log file script (printed output)
  pub long : output.status ≡ 6 → max_formula < now.given
  pub unfaulted : output.status ≢ 3 → now.faults ≡ before.faults

-- productive work over these clauses; how groups go by frames isn't said, as want of memory may
-- have come between a group and its frame
pub record IsWorkOver (all : Dqbf) (entries : List Entry) : Type 0 where
  pub kept : IsKept all entries
  pub lemmas_are_derived : Each IsDerivedByHints entries
  pub lemmas_are_new : Each IsNewLemma entries

-- no search began, and the work is on the formula; or it is over all that the script numbers
abbrev pub IsWorkOf : Dqbf → List ScriptCommand → ProofLog → Type 0
IsWorkOf f commands log =
    IsProductiveLog f log.entries ⊎ IsWorkOver (all_clauses f commands) log.entries

-- the log is empty, or of productive work on the formula and the script of the files
abbrev pub IsSessionLog : FilesState → List ℕ → List ℕ → ProofLog → Type 0
IsSessionLog files file script log =
    (log.entries ≡ [])
    ⊎ ((f : Dqbf) × (commands : List ScriptCommand) × IsFormulaOf (files.held file) f
    × IsScriptOf (files.held script) f commands × IsWorkOf f commands log)
