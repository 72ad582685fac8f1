-- What a run of the checker shows over files that are told.
use Rattle.std.specs.Prelude.{◌≡◌, ◌≢◌, ℕ, ◌≤◌, ◌⊎◌, List, ◌++◌, length, Option, Some, codes}
use Rattle.std.specs.Fmt.{decimal}
use Rattle.std.specs.Io.KnownBytes.{append_known}
use Rattle.dq_io.specs.Causes.{Rose}
use Rattle.dq_io.specs.Files.{Holding, Holds}
use Rattle.dq_io.specs.State.{FilesState}
use Rattle.dq_lits.specs.Formula.{Dqbf, IsWellFormed}
use Rattle.dq_lits.specs.Henkin.{IsTrueFormula, IsFalseFormula}
use Rattle.dqdimacs_reader.specs.Grammar.{SpellsFormula}
use Rattle.dq_runs.specs.FormulaFiles.{max_formula}
use Rattle.dq_runs.specs.Printed.{line}
use Rattle.dq_runs.specs.Sinks.{SinkState}
use Rattle.defined_checker.specs.declared.checks.DefinedCounts.{DefinedCounts}
use Rattle.cert_judge.specs.Judgement.{IsJudgement, HoldsSkolemCircuit, HoldsRightDefinitions}
use Rattle.cert_judge.specs.declared.answers.Judgement.{Judgement}
use Rattle.cert_judge.specs.declared.answers.Judgement.TheVariants.{ValidTrue, ValidFalse, ValidDefinitions}
use Rattle.dqcheck_words.specs.Command.{Command}
use Rattle.dqcheck_core.specs.Report.{answer_text, answer_status}
use Rattle.dqcheck_core.specs.Running.{max_certificate}

-- the command names files with these texts
pub record AreTold (held : List ℕ → Holding) (asked : Option Command)
    (formula certificate : List ℕ) : Type 0 where
  pub command : Command
  pub is : asked ≡ Some command
  pub formula_held : held command.formula ≡ Holds formula
  pub certificate_held : held command.certificate ≡ Holds certificate

-- the line names a verdict that the certificate proves
pub record IsProvedTrue (f : Dqbf) (certificate : List ℕ)
    (before now : Option (List ℕ)) : Type 0 where
  pub accepted : IsJudgement f certificate ValidTrue
  pub circuit : HoldsSkolemCircuit f certificate
  pub is_true : IsTrueFormula f
  pub written : now ≡ append_known before (line (codes "VALID TRUE"))

pub record IsProvedFalse (f : Dqbf) (certificate : List ℕ)
    (before now : Option (List ℕ)) : Type 0 where
  pub accepted : IsJudgement f certificate ValidFalse
  pub is_false : IsFalseFormula f
  pub written : now ≡ append_known before (line (codes "VALID FALSE"))

-- the line counts the blocks of each kind, and what they say of the existentials is right
pub record IsProvedDefined (f : Dqbf) (certificate : List ℕ)
    (before now : Option (List ℕ)) : Type 0 where
  pub counts : DefinedCounts
  pub accepted : IsJudgement f certificate (ValidDefinitions counts)
  pub definitions : HoldsRightDefinitions f certificate counts
  pub written : now ≡ append_known before (line (codes "VALID DEFINED "
      ++ (decimal counts.defined ++ (codes " FREE " ++ decimal counts.free))))

-- the texts are a formula's and an accepted certificate's, and what is written is right
pub record IsAcceptance (formula certificate : List ℕ) (before now : Option (List ℕ)) : Type 0 where
  pub f : Dqbf
  pub spelled : SpellsFormula formula f
  pub well_formed : IsWellFormed f
  pub verdict : IsProvedTrue f certificate before now
      ⊎ (IsProvedFalse f certificate before now ⊎ IsProvedDefined f certificate before now)

-- what is said of a formula and a certificate, and written with that status
pub record IsAnswered (f : Dqbf) (certificate : List ℕ) (before now : Option (List ℕ))
    (status : ℕ) : Type 0 where
  pub answer : Judgement
  pub is : IsJudgement f certificate answer
  pub ends_with : status ≡ answer_status answer
  pub written : now ≡ append_known before (line (answer_text f answer))

-- Over files that are told, what is accepted is right; and where nothing failed, a certificate for
-- a formula is judged.
pub record JudgesTold (files now : FilesState) (asked : Option Command) (sink sink_now : SinkState)
    (status : ℕ) : Type 0 where
  pub accepted : (formula certificate : List ℕ) → AreTold files.held asked formula certificate
      → status ≡ 0 → IsAcceptance formula certificate sink.taken sink_now.taken
  pub answered : (formula certificate : List ℕ) (f : Dqbf)
      → AreTold files.held asked formula certificate → length formula ≤ max_formula
      → length certificate ≤ max_certificate → SpellsFormula formula f
      → ¬ Rose files.faults now.faults → ¬ Rose sink.faults sink_now.faults → status ≢ 5
      → IsAnswered f certificate sink.taken sink_now.taken status
