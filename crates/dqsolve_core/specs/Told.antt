-- What a run of the solver shows over a file that is told, or of a planted formula.
use Rattle.std.specs.Prelude.{◌≡◌, ◌≢◌, true, ℕ, ◌≤◌, List, length, Option, Some}
use Rattle.std.specs.Io.KnownBytes.{append_known}
use Rattle.dq_io.specs.Causes.{Rose}
use Rattle.dq_io.specs.Files.{Holding, Holds}
use Rattle.dq_io.specs.State.{FilesState}
use Rattle.dq_lits.specs.Formula.{Dqbf, IsWellFormed}
use Rattle.hint_log.specs.Entries.{ProofLog}
use Rattle.dqdimacs_reader.specs.Grammar.{SpellsFormula}
use Rattle.dq_runs.specs.FormulaFiles.{max_formula}
use Rattle.dq_runs.specs.Printed.{line}
use Rattle.dq_runs.specs.Sinks.{SinkState}
use Rattle.verdict_texts.specs.Verdicts.{Verdict, verdict_text, verdict_status, is_verdict_status}
use Rattle.dq_verdicts.specs.declared.demonstrations.Demonstration.{Demonstration}
use Rattle.dqsolve_words.specs.Command.{Search, Planting, Command, solve, demo, default_steps}
use Rattle.dqsolve_core.specs.Report.{form_of, demo_text, demonstration_status}
use Rattle.dqsolve_core.specs.Running.{IsDemonstration}
use Rattle.dqsolve_core.specs.Searched.{IsVerdictBy}
use Rattle.dqsolve_core.specs.ToldCircuits.{ComparesTold}
use Rattle.dqsolve_core.specs.ToldDefinitions.{DefinesTold}
use Rattle.dqsolve_core.specs.ToldSessions.{ConversesTold}

-- the command names a file with this text
pub record IsTold (held : List ℕ → Holding) (asked : Option Command)
    (formula : List ℕ) : Type 0 where
  pub command : Search
  pub is : asked ≡ Some (solve command)
  pub formula_held : held command.file ≡ Holds formula

-- a verdict on a formula, in as many steps as were asked for at most, written with that status
pub record IsSolved (f : Dqbf) (log : ProofLog) (c : Search) (before now : Option (List ℕ))
    (status : ℕ) : Type 0 where
  pub verdict : Verdict
  pub limit : log.limit ≡ c.steps
  pub is : IsVerdictBy f log c.options verdict
  pub ends_with : status ≡ verdict_status verdict
  pub written : now ≡ append_known before (verdict_text (form_of c.options) f verdict)

-- the text is a formula's, and what is written is a verdict on it
pub record IsSolution (formula : List ℕ) (log : ProofLog) (c : Search)
    (before now : Option (List ℕ)) (status : ℕ) : Type 0 where
  pub f : Dqbf
  pub spelled : SpellsFormula formula f
  pub well_formed : IsWellFormed f
  pub solved : IsSolved f log c before now status

-- what was shown of the planted formula, in the default number of steps, written with its status
pub record IsDemonstratedRun (p : Planting) (log : ProofLog) (before now : Option (List ℕ))
    (status : ℕ) : Type 0 where
  pub clauses : ℕ
  pub shown : Demonstration
  pub limit : log.limit ≡ default_steps
  pub is : IsDemonstration p log clauses shown
  pub ends_with : status ≡ demonstration_status shown
  pub written : now ≡ append_known before (line (demo_text p clauses shown))

-- Over a file that is told, a verdict is right, and where nothing failed, there is one. A planted
-- formula is searched and its certificate judged, and where the sink doesn't fail, the line is
-- written.
pub record SolvesTold (files now : FilesState) (asked : Option Command) (log : ProofLog)
    (sink sink_now : SinkState) (status : ℕ) : Type 0 where
  pub right : (formula : List ℕ) (told : IsTold files.held asked formula)
      → is_verdict_status status ≡ true
      → IsSolution formula log told.command sink.taken sink_now.taken status
  pub solved : (formula : List ℕ) (f : Dqbf) (told : IsTold files.held asked formula)
      → length formula ≤ max_formula → SpellsFormula formula f
      → ¬ Rose files.faults now.faults → ¬ Rose sink.faults sink_now.faults → status ≢ 5
      → IsSolved f log told.command sink.taken sink_now.taken status
  pub demonstrated : (p : Planting) → asked ≡ Some (demo p)
      → ¬ Rose sink.faults sink_now.faults → status ≢ 5
      → IsDemonstratedRun p log sink.taken sink_now.taken status

-- over files that are told: a formula's that is to be decided, two circuits', a formula's whose
-- definitions are asked for, and a formula's with a script's
pub record ShowsTold (files now : FilesState) (asked : Option Command) (log : ProofLog)
    (sink sink_now : SinkState) (status : ℕ) : Type 0 where
  pub formula : SolvesTold files now asked log sink sink_now status
  pub circuits : ComparesTold files asked log sink sink_now status
  pub definitions : DefinesTold files now asked log sink sink_now status
  pub sessions : ConversesTold files now asked log sink sink_now status
