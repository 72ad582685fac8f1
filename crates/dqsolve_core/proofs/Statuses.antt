-- Which statuses a report has, and why.
use Rattle.std.proofs.Common.{◌≡◌, ◌≢◌, ℕ, Option, None, Some, arith}
use Rattle.dq_io.specs.Causes.{Rose}
use Rattle.dq_io.specs.State.{FilesState}
use Rattle.dq_lits.specs.Formula.{Dqbf}
use Rattle.hint_log.specs.Entries.{ProofLog, steps_of}
use Rattle.verdict_texts.specs.declared.forms.Form.{Form}
use Rattle.dq_verdicts.specs.Shown.{IsVerdict}
use Rattle.verdict_texts.specs.Verdicts.{Verdict, is_false, is_unknown, verdict_status}
use Rattle.dqsolve_words.specs.Command.{Command}

pub not_long : (verdict : Verdict) → verdict_status verdict ≡ 6 → ⊥
not_long (is_false _) same = omega (arith, same)
not_long _ same = omega (arith, same)

-- which statuses a report has
pub record Reasons (before now : FilesState) (asked : Option Command) (status : ℕ) : Type 0 where
  pub words : status ≡ 1 → asked ≡ None
  pub source : status ≡ 3 → Rose before.faults now.faults
  pub delivered : status ≢ 4

pub verdict_reasons : (before now : FilesState) (c : Command) (verdict : Verdict) →
    Reasons before now (Some c) (verdict_status verdict)
verdict_reasons before now c (is_false _) = record {
  words = λ h. absurd (omega (arith, h));
  source =
      λ h. absurd (omega (arith, h));
  delivered = λ h. omega (arith, h);
}
verdict_reasons before now c _ = record {
  words = λ h. absurd (omega (arith, h));
  source =
      λ h. absurd (omega (arith, h));
  delivered = λ h. omega (arith, h);
}

-- no verdict, so all steps were done
pub verdict_steps : (f g : Dqbf) (log : ProofLog) (form : Form) (verdict : Verdict) → IsVerdict f g log form verdict →
    verdict_status verdict ≡ 0 → steps_of log.entries ≡ log.limit
verdict_steps f g log form (is_unknown _ _) v zero = v.shown.limit
verdict_steps f g log form _ v zero = absurd (omega (arith, zero))
