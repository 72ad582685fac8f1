-- From what the reading of two circuits answers to what is due, and why.
use Rattle.std.proofs.Common.{◌≡◌, ◌≢◌, inl, inr, ℕ, ◌<◌, List, Some, Result, Ok, Err, refl, sym, ap, ◌∙◌, subst, arith}
use Rattle.std.specs.Prelude.{IfOk}
use Rattle.dq_io.specs.State.{FilesState}
use Rattle.dq_lits.specs.Formula.{Dqbf}
use Rattle.dq_lits.specs.declared.memory.Memory.{Memory as OutOfMemory}
use Rattle.hint_log.specs.Entries.{ProofLog, steps_of}
use Rattle.dq_runs.specs.FileTexts.{PickedTwice}
use Rattle.dq_runs.specs.Printed.{Printed, printed}
use Rattle.dq_runs.specs.declared.outputs.Output.{Output}
use Rattle.dq_verdicts.specs.Outputs.{IsVerdictOutput}
use Rattle.verdict_texts.specs.Forms.{plain}
use Rattle.verdict_texts.specs.Verdicts.{printed_verdict}
use Rattle.pec_runs.specs.DesignFiles.{max_circuit, IsNoDesign, IsDesignFormula, IsDesignRead, IsUnreadableStop, design_line}
use Rattle.pec_runs.specs.Encoded.{IsEncodeDue}
use Rattle.pec_runs.specs.declared.designs.DesignStop.{DesignStop}
use Rattle.pec_runs.specs.declared.designs.DesignStop.TheVariants.{Said}
use Rattle.pec_runs.specs.declared.designs.NoDesign.{NoDesign}
use Rattle.pec_runs.specs.declared.designs.NoDesign.TheVariants.{Unreadable, LongSpec, LongImp}
use Rattle.dqsolve_words.specs.Command.{Circuits, Comparison, Command, pec, encode}
use Rattle.dqsolve_core.specs.Outputs.{IsReported}
use Rattle.dqsolve_core.specs.Report.{ComparisonReport, no_design, compared, printed_comparison}
use Rattle.dqsolve_core.specs.Running.{IsDueForCircuits}
use Rattle.dq_runs.proofs.SaidFormulas.{status_of}
use Rattle.dqsolve_core.proofs.Statuses.{not_long, Reasons, verdict_reasons, verdict_steps}

-- a verdict on the design's formula
pub comparison_reported : (before now : FilesState) (log : ProofLog) (c : Comparison) (f : Dqbf)
    (r : Result Output OutOfMemory)
    → IsDesignFormula (before.held c.circuits.specification) (before.held c.circuits.implementation) f
    → PickedTwice before now → now.faults ≡ before.faults → log.limit ≡ c.steps
    → IfOk r (IsVerdictOutput f log plain) → IfOk r (IsReported before now (Some (pec c)) log)
comparison_reported before now log c f (Ok output) is picked unfaulted limit v = record {
  due = (compared f v.verdict, (is, limit, v.is, picked), v.is_printed);
  long = λ six. absurd (not_long v.verdict
      (sym (status_of output (printed_verdict plain f v.verdict) v.is_printed) ∙ six));
  unfaulted = λ _. unfaulted;
}
comparison_reported before now log c f (Err _) is picked unfaulted limit v = tt

-- only a length has status 6, and only a file that can't be read has status 3
pub said_long : (before now : FilesState) (spec imp : List ℕ) (said : NoDesign) → IsNoDesign before now spec imp said
    → (design_line said).status ≡ 6 → max_circuit < now.given
said_long before now spec imp LongSpec is six = is.0.given
said_long before now spec imp LongImp is six = is.1.given
said_long before now spec imp _ is six = absurd (omega (arith, six))

-- the files give no design
pub refusal_reported : (before now : FilesState) (log : ProofLog) (c : Comparison) (said : NoDesign)
    (r : Result Output OutOfMemory)
    → IsNoDesign before now c.circuits.specification c.circuits.implementation said
    → (said ≢ Unreadable → now.faults ≡ before.faults)
    → IfOk r (λ output. printed output ≡ design_line said) → IfOk r (IsReported before now (Some (pec c)) log)
refusal_reported before now log c said (Ok output) is unfaulted same =
    let status = status_of output (design_line said) same in
    record {
      due = (no_design said, is, same);
      long = λ six. said_long before now c.circuits.specification c.circuits.implementation said is (sym status ∙ six);
      unfaulted = λ other. unfaulted (λ unreadable. other (status ∙ ap (λ s. (design_line s).status) unreadable));
    }
refusal_reported before now log c said (Err _) is unfaulted same = tt

-- ---- which statuses these reports have

refusal_reasons : (before now : FilesState) (c : Command) (spec imp : List ℕ) (said : NoDesign)
    → IsNoDesign before now spec imp said → Reasons before now (Some c) (design_line said).status
refusal_reasons before now c spec imp Unreadable (inl (is, picked)) = record {
  words = λ h. absurd (omega (arith, h));
  source = λ _. is.counted;
  delivered = λ h. omega (arith, h);
}
refusal_reasons before now c spec imp Unreadable (inr (first, is, picked)) = record {
  words = λ h. absurd (omega (arith, h));
  source = λ _. is.counted;
  delivered = λ h. omega (arith, h);
}
refusal_reasons before now c spec imp LongImp is = record {
  words = λ h. absurd (omega (arith, h));
  source = λ h. absurd (omega (arith, h));
  delivered = λ h. omega (arith, h);
}
refusal_reasons before now c spec imp _ is = record {
  words = λ h. absurd (omega (arith, h));
  source = λ h. absurd (omega (arith, h));
  delivered = λ h. omega (arith, h);
}

pub comparison_reasons : (before now : FilesState) (log : ProofLog) (c : Comparison) (report : ComparisonReport)
    → IsDueForCircuits before now log c report
    → Reasons before now (Some (pec c)) ((printed_comparison report).status)
comparison_reasons before now log c (no_design said) due =
    refusal_reasons before now (pec c) c.circuits.specification c.circuits.implementation said due
comparison_reasons before now log c (compared f verdict) due = verdict_reasons before now (pec c) verdict

pub encode_reasons : (before now : FilesState) (c : Circuits) (p : Printed)
    → IsEncodeDue before now c.specification c.implementation p → Reasons before now (Some (encode c)) p.status
encode_reasons before now c p (inl (said, is, same)) =
    subst (λ (q : Printed). Reasons before now (Some (encode c)) q.status) (sym same)
    (refusal_reasons before now (encode c) c.specification c.implementation said is)
encode_reasons before now c p (inr (f, is, picked, same)) =
    let zero : p.status ≡ 0 = ap (λ (q : Printed). q.status) same in
    record {
      words = λ h. absurd (omega (arith, h, zero));
      source = λ h. absurd (omega (arith, h, zero));
      delivered = λ h. omega (arith, h, zero);
    }

-- ---- where no verdict was found

some_status : (said : NoDesign) → (design_line said).status ≡ 0 → ⊥
some_status LongImp zero = omega (arith, zero)
some_status _ zero = omega (arith, zero)

pub comparison_steps : (before now : FilesState) (log : ProofLog) (c : Comparison) (report : ComparisonReport)
    → IsDueForCircuits before now log c report → (printed_comparison report).status ≡ 0
    → steps_of log.entries ≡ log.limit
comparison_steps before now log c (no_design said) due zero = absurd (some_status said zero)
comparison_steps before now log c (compared f verdict) due zero = verdict_steps f f log plain verdict due.2 zero

-- ---- what was read where the files give none

pub said_of : (before now : FilesState) (spec imp : List ℕ) (r : Result Dqbf DesignStop) (stop : DesignStop)
    (said : NoDesign) → r ≡ Err stop → stop ≡ Said said → IsDesignRead before now spec imp r
    → IsNoDesign before now spec imp said
said_of before now spec imp r stop said is kind read =
    subst (IsDesignRead before now spec imp) (is ∙ ap Err kind) read

said_other : (said : NoDesign) → said ≢ Unreadable → IsUnreadableStop (Err (Said said)) → ⊥
said_other Unreadable other is = other refl
said_other _ other is = is

-- files of which something else is said counted no fault
pub was_read : (r : Result Dqbf DesignStop) (stop : DesignStop) (said : NoDesign) → r ≡ Err stop
    → stop ≡ Said said → said ≢ Unreadable → IsUnreadableStop r → ⊥
was_read r stop said is kind other unreadable =
    said_other said other (subst IsUnreadableStop (is ∙ ap Err kind) unreadable)
