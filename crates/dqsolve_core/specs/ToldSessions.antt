-- What a run of the solver shows over two files that are told, of a formula and of a script.
use Rattle.std.specs.Prelude.{◌≡◌, ◌≢◌, ◌≤◌, ℕ, List, length, Ok, Option, Some}
use Rattle.std.specs.Io.KnownBytes.{append_known}
use Rattle.dq_io.specs.Causes.{Rose}
use Rattle.dq_io.specs.Files.{Holding, Holds}
use Rattle.dq_io.specs.State.{FilesState}
use Rattle.dq_lits.specs.Formula.{Dqbf, IsWellFormed}
use Rattle.hint_log.specs.Entries.{ProofLog}
use Rattle.dqdimacs_reader.specs.Grammar.{SpellsFormula}
use Rattle.dq_runs.specs.FormulaFiles.{max_formula}
use Rattle.dq_runs.specs.Sinks.{SinkState}
use Rattle.script_text.specs.Commands.{ScriptCommand}
use Rattle.script_text.specs.Reading.{read_script}
use Rattle.session_runs.specs.Blocks.{Search, blocks_text}
use Rattle.session_runs.specs.Searches.{AreSearched}
use Rattle.session_runs.specs.SessionFiles.{max_script}
use Rattle.dqsolve_words.specs.Command.{Command, Session, session}

-- the command names files with these texts
pub record IsSessionTold (held : List ℕ → Holding) (asked : Option Command)
    (formula script : List ℕ) : Type 0 where
  pub command : Session
  pub is : asked ≡ Some (session command)
  pub formula_held : held command.file ≡ Holds formula
  pub script_held : held command.script ≡ Holds script

-- the searches of a script on a formula, in as many steps in all as were asked for at most, each
-- written as its block
pub record AreAnswered (f : Dqbf) (commands : List ScriptCommand) (log : ProofLog) (c : Session)
    (before now : Option (List ℕ)) (status : ℕ) : Type 0 where
  pub searches : List Search
  pub limit : log.limit ≡ c.steps
  pub searched : AreSearched f commands log searches
  pub ends_with : status ≡ 0
  pub written : now ≡ append_known before (blocks_text 1 searches)

-- the texts are a formula's and a script's for it, and what is written are the searches
pub record AreAnsweredOf (formula script : List ℕ) (log : ProofLog) (c : Session)
    (before now : Option (List ℕ)) (status : ℕ) : Type 0 where
  pub f : Dqbf
  pub commands : List ScriptCommand
  pub spelled : SpellsFormula formula f
  pub well_formed : IsWellFormed f
  pub reading : read_script f script ≡ Ok commands
  pub are : AreAnswered f commands log c before now status

-- Over files that are told, what is written with status 0 are a script's searches, and where
-- nothing failed and both texts are spelled, they were made.
pub record ConversesTold (files now : FilesState) (asked : Option Command) (log : ProofLog)
    (sink sink_now : SinkState) (status : ℕ) : Type 0 where
  pub right : (formula script : List ℕ) (told : IsSessionTold files.held asked formula script)
      → status ≡ 0 → AreAnsweredOf formula script log told.command sink.taken sink_now.taken status
  pub answered : (formula script : List ℕ) (f : Dqbf) (commands : List ScriptCommand)
      (told : IsSessionTold files.held asked formula script)
      → length formula ≤ max_formula → length script ≤ max_script → SpellsFormula formula f
      → read_script f script ≡ Ok commands
      → ¬ Rose files.faults now.faults → ¬ Rose sink.faults sink_now.faults → status ≢ 5
      → AreAnswered f commands log told.command sink.taken sink_now.taken status
