-- Which report of the solver is due, and whose the log is.
use Rattle.std.specs.Prelude.{◌≡◌, ◌≢◌, ℕ, ◌⊎◌, [], length, Option, None, Some}
use Rattle.dq_io.specs.State.{FilesState}
use Rattle.dq_lits.specs.Formula.{Dqbf}
use Rattle.hint_log.specs.Entries.{ProofLog, steps_of}
use Rattle.hint_log.specs.ProductiveLog.{IsProductiveLog}
use Rattle.planted_formulas.specs.Planted.{planted_formula}
use Rattle.dq_runs.specs.FileTexts.{PickedOnce, PickedTwice}
use Rattle.dq_runs.specs.FormulaFiles.{IsFormulaOf, IsNoFormula}
use Rattle.dq_runs.specs.Printed.{Printed}
use Rattle.verdict_texts.specs.Forms.{plain}
use Rattle.dq_verdicts.specs.Shown.{IsVerdict, IsDemonstrated}
use Rattle.dq_verdicts.specs.declared.demonstrations.Demonstration.{Demonstration}
use Rattle.pec_runs.specs.DesignFiles.{IsNoDesign, IsDesignFormula}
use Rattle.pec_runs.specs.Encoded.{IsEncodeDue}
use Rattle.definition_runs.specs.DefinedFiles.{IsDefinedDue}
use Rattle.session_runs.specs.SessionFiles.{IsSessionDue, IsSessionLog}
use Rattle.dqsolve_words.specs.Command.{Search, Planting, Comparison, Session, Command, solve, demo, pec, encode, defined, session, default_steps}
use Rattle.dqsolve_core.specs.Report.{SearchReport, no_formula, solved, ComparisonReport, no_design, compared, usage, printed_search, printed_comparison, printed_demo}
use Rattle.dqsolve_core.specs.Searched.{IsSearchedFor, IsVerdictBy}

-- Which report is due for a search, by what the files told before the run and tell behind it, and
-- by the search's log: the formula's file comes first, then its text, then the search. No other
-- file is picked.
abbrev pub IsDueFor : FilesState → FilesState → ProofLog → Search → SearchReport → Type 0
IsDueFor before now log c (no_formula said) =
    IsNoFormula before now c.file said × PickedOnce before now
IsDueFor before now log c (solved f verdict) =
    IsFormulaOf (before.held c.file) f × (log.limit ≡ c.steps)
    × IsVerdictBy f log c.options verdict × PickedOnce before now

-- the search's log of productive work on the planted formula, of so many clauses, shows that much
pub record IsDemonstration (p : Planting) (log : ProofLog) (clauses : ℕ)
    (shown : Demonstration) : Type 0 where
  pub clauses_are : clauses ≡ length (planted_formula p.seed p.size).matrix
  pub productive : IsProductiveLog (planted_formula p.seed p.size) log.entries
  pub is : IsDemonstrated (planted_formula p.seed p.size) log shown

-- what is due for a planted formula, by the log of the search in the default number of steps
pub record IsDemoDue (log : ProofLog) (p : Planting) (printed : Printed) : Type 0 where
  pub clauses : ℕ
  pub shown : Demonstration
  pub limit : log.limit ≡ default_steps
  pub is : IsDemonstration p log clauses shown
  pub is_printed : printed ≡ printed_demo p clauses shown

-- which report is due for a comparison: the files come first, then their texts, then the search
abbrev pub IsDueForCircuits : FilesState → FilesState → ProofLog → Comparison → ComparisonReport
    → Type 0
IsDueForCircuits before now log c (no_design said) =
    IsNoDesign before now c.circuits.specification c.circuits.implementation said
IsDueForCircuits before now log c (compared f verdict) =
    IsDesignFormula (before.held c.circuits.specification)
    (before.held c.circuits.implementation) f
    × (log.limit ≡ c.steps) × IsVerdict f f log plain verdict × PickedTwice before now

-- the words come before all; for a planted formula no file is picked
abbrev pub IsDue : FilesState → FilesState → ProofLog → Option Command → Printed → Type 0
IsDue before now log None printed = (printed ≡ usage) × (now.picks ≡ before.picks)
IsDue before now log (Some (solve c)) printed =
    (report : SearchReport) × IsDueFor before now log c report
    × (printed ≡ printed_search c report)
IsDue before now log (Some (demo p)) printed =
    IsDemoDue log p printed × (now.picks ≡ before.picks)
IsDue before now log (Some (pec c)) printed =
    (report : ComparisonReport) × IsDueForCircuits before now log c report
    × (printed ≡ printed_comparison report)
IsDue before now log (Some (encode c)) printed =
    IsEncodeDue before now c.specification c.implementation printed
IsDue before now log (Some (defined c)) printed =
    (log.limit ≡ c.steps) × IsDefinedDue before now log c.file printed
IsDue before now log (Some (session c)) printed =
    (log.limit ≡ c.steps) × IsSessionDue before now log c.file c.script printed

-- the formula that is asked for: the one that is read, or the planted one
abbrev pub IsAskedFormula : FilesState → Command → Dqbf → Type 0
IsAskedFormula files (solve c) f = IsFormulaOf (files.held c.file) f
IsAskedFormula files (demo p) f = f ≡ planted_formula p.seed p.size
IsAskedFormula files (pec c) f =
    IsDesignFormula (files.held c.circuits.specification) (files.held c.circuits.implementation) f
IsAskedFormula files (encode c) f = ⊥
IsAskedFormula files (defined c) f = IsFormulaOf (files.held c.file) f
IsAskedFormula files (session c) f = IsFormulaOf (files.held c.file) f

abbrev pub steps_asked : Command → ℕ
steps_asked (solve c) = c.steps
steps_asked (demo p) = default_steps
steps_asked (pec c) = c.steps
steps_asked (encode c) = 0
steps_asked (defined c) = c.steps
steps_asked (session c) = c.steps

-- the log's work was for the formula that was asked for, or for what is left of it where
-- preparation was, and all of it productive
pub record IsWorkOn (files : FilesState) (asked : Option Command) (log : ProofLog) : Type 0 where
  pub command : Command
  pub is : asked ≡ Some command
  pub limit : log.limit ≡ steps_asked command
  pub f : Dqbf
  pub formula : IsAskedFormula files command f
  pub searched : Dqbf
  pub is_searched : IsSearchedFor command f searched
  pub productive : IsProductiveLog searched log.entries

-- the log's work was for the searches of a script, in as many steps as were asked for
pub record IsSessionWork (files : FilesState) (asked : Option Command) (log : ProofLog) : Type 0 where
  pub command : Session
  pub is : asked ≡ Some (session command)
  pub limit : log.limit ≡ command.steps
  pub work : IsSessionLog files command.file command.script log

-- it is empty or of productive work, however the run ends
abbrev pub IsRunLog : FilesState → Option Command → ProofLog → Type 0
IsRunLog files asked log =
    (log.entries ≡ []) ⊎ IsWorkOn files asked log ⊎ IsSessionWork files asked log

-- a command that searches, so that it ends with 0 only where the steps didn't suffice
abbrev pub SeeksVerdict : Command → Type 0
SeeksVerdict (solve c) = Unit {0}
SeeksVerdict (demo p) = Unit {0}
SeeksVerdict (pec c) = Unit {0}
SeeksVerdict (encode c) = ⊥
SeeksVerdict (defined c) = Unit {0}
SeeksVerdict (session c) = ⊥

-- The log is the run's own: of productive work, in as many steps as are asked for, all of which are
-- done where no verdict was found.
pub record IsOwnLog (files : FilesState) (asked : Option Command) (log : ProofLog)
    (status : ℕ) : Type 0 where
  pub work : IsRunLog files asked log
  pub limit : (c : Command) → asked ≡ Some c → status ≢ 5 → log.limit ≡ steps_asked c
  pub unknown : (c : Command) → asked ≡ Some c → SeeksVerdict c → status ≡ 0
      → steps_of log.entries ≡ log.limit
