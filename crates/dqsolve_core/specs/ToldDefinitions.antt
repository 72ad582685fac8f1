-- What a run of the solver shows over a file that is told, whose definitions are asked for.
use Rattle.std.specs.Prelude.{◌≡◌, ◌≢◌, ◌⊎◌, ℕ, ◌≤◌, List, length, Option, Some}
use Rattle.std.specs.Io.KnownBytes.{append_known}
use Rattle.dq_io.specs.Causes.{Rose}
use Rattle.dq_io.specs.Files.{Holding, Holds}
use Rattle.dq_io.specs.State.{FilesState}
use Rattle.dq_lits.specs.Formula.{Dqbf, IsWellFormed}
use Rattle.hint_log.specs.Entries.{ProofLog}
use Rattle.dqdimacs_reader.specs.Grammar.{SpellsFormula}
use Rattle.dq_runs.specs.FormulaFiles.{max_formula}
use Rattle.dq_runs.specs.Sinks.{SinkState}
use Rattle.definition_runs.specs.Definitions.{AreDefinitions, Definitions, printed_definitions}
use Rattle.dqsolve_words.specs.Command.{Command, Defining, defined}

-- the command asks for the definitions of the formula in a file with this text
pub record IsDefiningTold (held : List ℕ → Holding) (asked : Option Command)
    (formula : List ℕ) : Type 0 where
  pub command : Defining
  pub is : asked ≡ Some (defined command)
  pub formula_held : held command.file ≡ Holds formula

-- what was found for a formula, in as many steps as were asked for at most, written with its status
pub record AreDefined (f : Dqbf) (log : ProofLog) (c : Defining) (before now : Option (List ℕ))
    (status : ℕ) : Type 0 where
  pub found : Definitions
  pub limit : log.limit ≡ c.steps
  pub are : AreDefinitions f log found
  pub ends_with : status ≡ (printed_definitions f found).status
  pub written : now ≡ append_known before ((printed_definitions f found).text)

-- the text is a formula's, and what is written was found for it
pub record AreDefinedOf (formula : List ℕ) (log : ProofLog) (c : Defining)
    (before now : Option (List ℕ)) (status : ℕ) : Type 0 where
  pub f : Dqbf
  pub spelled : SpellsFormula formula f
  pub well_formed : IsWellFormed f
  pub are : AreDefined f log c before now status

-- Over a file that is told, what is written with status 30 or 0 was found for its formula, and
-- where nothing failed, something was.
pub record DefinesTold (files now : FilesState) (asked : Option Command) (log : ProofLog)
    (sink sink_now : SinkState) (status : ℕ) : Type 0 where
  pub right : (formula : List ℕ) (told : IsDefiningTold files.held asked formula)
      → (status ≡ 30) ⊎ (status ≡ 0)
      → AreDefinedOf formula log told.command sink.taken sink_now.taken status
  pub found : (formula : List ℕ) (f : Dqbf) (told : IsDefiningTold files.held asked formula)
      → length formula ≤ max_formula → SpellsFormula formula f
      → ¬ Rose files.faults now.faults → ¬ Rose sink.faults sink_now.faults → status ≢ 5
      → AreDefined f log told.command sink.taken sink_now.taken status
