-- What is shown by what is written with a verdict, and by the search's log.
use Rattle.std.specs.Prelude.{◌≡◌, ℕ, ◌+◌, ◌<◌, length}
use Rattle.std.specs.List.{range_with_len}
use Rattle.dq_lits.specs.Formula.{Dqbf}
use Rattle.hint_log.specs.Deciding.{IsUndecided}
use Rattle.hint_log.specs.Entries.{ProofLog, rounds_of, steps_of}
use Rattle.hint_log.specs.ProductiveLog.{IsProductiveLog}
use Rattle.aiger_text.specs.declared.files.AagFile.{AagFile}
use Rattle.cert_text.specs.declared.circuit_proofs.Dqp.{Dqp}
use Rattle.repair_loop.specs.Stopping.{HasNextStep}
use Rattle.cert_judge.specs.Judgement.{IsJudgement}
use Rattle.cert_judge.specs.declared.answers.Judgement.TheVariants.{ValidTrue}
use Rattle.verdict_texts.specs.Forms.{plain}
use Rattle.dq_verdicts.specs.declared.demonstrations.Demonstration.{Demonstration}
use Rattle.dq_verdicts.specs.declared.demonstrations.Demonstration.TheVariants.{Valid, Large, CutOff}
use Rattle.verdict_texts.specs.declared.forms.Form.{Form}
use Rattle.verdict_texts.specs.Verdicts.{Verdict, is_true, is_false, is_unknown, verdict_text}
use Rattle.verdict_texts.specs.Shown.{IsWithinLimits, IsExportedOf, IsShownTrue, IsShownFalse, few_entries}

-- all steps were done, each productive, the next one is in hand, and no answer decides the formula
pub record IsLimitReached (f : Dqbf) (log : ProofLog) (rounds learned : ℕ) : Type 0 where
  pub limit : steps_of log.entries ≡ log.limit
  pub next : HasNextStep f log.entries
  pub undecided : IsUndecided f log.entries
  pub rounds_are : rounds ≡ rounds_of log.entries
  pub steps_are : rounds + learned ≡ steps_of log.entries

abbrev pub IsShown : Dqbf → Dqbf → ProofLog → Form → Verdict → Type 0
IsShown decided searched log form (is_true file proof) =
    IsShownTrue decided searched log form file proof
IsShown decided searched log form (is_false d) =
    IsShownFalse decided searched (range_with_len 1 (length searched.matrix)) log form d
IsShown decided searched log form (is_unknown rounds learned) =
    IsLimitReached searched log rounds learned

-- a verdict on a formula, which a log of productive work on the formula that was searched shows
pub record IsVerdict (decided searched : Dqbf) (log : ProofLog) (form : Form)
    (verdict : Verdict) : Type 0 where
  pub productive : IsProductiveLog searched log.entries
  pub shown : IsShown decided searched log form verdict

-- the checker accepts the text
pub record IsDemonstratedValid (f : Dqbf) (log : ProofLog) : Type 0 where
  pub file : AagFile
  pub proof : Dqp
  pub exported : IsExportedOf f log file proof
  pub accepted : IsJudgement f (verdict_text plain f (is_true file proof)) ValidTrue

-- the log is long, and circuit and proof are beyond the formats' limits
pub record IsDemonstratedLarge (f : Dqbf) (log : ProofLog) : Type 0 where
  pub file : AagFile
  pub proof : Dqp
  pub exported : IsExportedOf f log file proof
  pub many : few_entries < length log.entries
  pub beyond : IsWithinLimits plain file proof → ⊥

pub record IsCutOff (f : Dqbf) (log : ProofLog) : Type 0 where
  pub limit : steps_of log.entries ≡ log.limit
  pub next : HasNextStep f log.entries
  pub undecided : IsUndecided f log.entries

abbrev pub IsDemonstrated : Dqbf → ProofLog → Demonstration → Type 0
IsDemonstrated f log Valid = IsDemonstratedValid f log
IsDemonstrated f log Large = IsDemonstratedLarge f log
IsDemonstrated f log CutOff = IsCutOff f log
