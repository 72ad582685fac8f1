-- What is shown by what is written with a verdict, and by the log of the search.
use Rattle.std.specs.Prelude.{◌≡◌, ℕ, ◌-◌, ◌≤◌, List, length, None}
use Rattle.dq_lits.specs.Expansion.{IsExpansionUnsatisfiable}
use Rattle.dq_lits.specs.Formula.{Dqbf}
use Rattle.dq_lits.specs.Henkin.{IsTrueFormula, IsFalseFormula}
use Rattle.hint_log.specs.Entries.{ProofLog, rounds_of, steps_of}
use Rattle.hint_log.specs.Reached.{AreReached}
use Rattle.aiger_text.specs.declared.files.AagFile.{AagFile}
use Rattle.cert_text.specs.Header.{max_count}
use Rattle.cert_text.specs.declared.circuit_proofs.Dqp.{Dqp}
use Rattle.cert_text.specs.declared.refutations.Dqr.{Dqr}
use Rattle.expansion.specs.Table.{IsRefutedBy}
use Rattle.cert_export.specs.Exportable.{AreExported}
use Rattle.cert_export.specs.ExportedCircuit.{IsDecidedTrue, IsNumberedFile}
use Rattle.cert_export.specs.Parts.{IsExportedCircuit}
use Rattle.proof_checker.specs.ProvedCircuit.{IsProvedCircuit}
use Rattle.refutation_checker.specs.Refutation.{refutation_fault}
use Rattle.cert_judge.specs.Judgement.{IsJudgement}
use Rattle.cert_judge.specs.declared.answers.Judgement.TheVariants.{ValidTrue, ValidFalse}
use Rattle.verdict_texts.specs.Forms.{written_items, written_proof}
use Rattle.verdict_texts.specs.Verdicts.{Verdict, is_true, is_false, is_unknown, verdict_text}
use Rattle.verdict_texts.specs.declared.forms.Form.{Form}

-- with at most so many entries in the log, what is written is within the formats' limits
abbrev pub few_entries : ℕ
few_entries = 400000000

-- the numbers of a circuit and its proof, as it is written, are within the formats' limits; the
-- others are no greater than these
pub record IsWithinLimits (form : Form) (file : AagFile) (proof : Dqp) : Type 0 where
  pub variables : file.circuit.max_var ≤ max_count
  pub items : length (written_proof form file proof).items ≤ max_count

-- An answer of the log decides that the formula which was searched is true, and the circuit with its
-- proof is what is exported of it.
pub record IsExportedOf (searched : Dqbf) (log : ProofLog) (file : AagFile)
    (proof : Dqp) : Type 0 where
  pub id : ℕ
  pub decided : IsDecidedTrue searched log.entries id
  pub ids : List ℕ
  pub exported : IsExportedCircuit searched log.entries id ids file proof
  pub circuit : IsProvedCircuit searched file proof
  pub numbers : IsNumberedFile searched file

-- The circuit has Skolem functions, its proof shows it, and the checker accepts what is written
-- where it is within the formats' limits, as a text of at most 10^9 bytes is. The formula that is
-- decided may be another than the one that was searched; where it is the same, what is written is
-- exported of the log.
pub record IsShownTrue (decided searched : Dqbf) (log : ProofLog) (form : Form) (file : AagFile)
    (proof : Dqp) : Type 0 where
  pub true_formula : IsTrueFormula decided
  pub circuit : IsProvedCircuit decided file proof
  pub answered : (id : ℕ) × IsDecidedTrue searched log.entries id
  pub exported : decided ≡ searched → IsExportedOf searched log file proof
  pub accepted : IsWithinLimits form file proof
      → IsJudgement decided (verdict_text form decided (is_true file proof)) ValidTrue
  pub within : decided ≡ searched → length log.entries ≤ few_entries
      → IsWithinLimits form file proof
  pub short : length (verdict_text form decided (is_true file proof)) ≤ max_count
      → IsWithinLimits form file proof

-- An answer of the log rests on instances of the searched formula alone, whose clauses have these
-- numbers there, and the refutation is what is exported of it, under the rows of these instances.
pub record IsRefutationOf (searched : Dqbf) (numbers : List ℕ) (log : ProofLog)
    (d : Dqr) : Type 0 where
  pub id : ℕ
  pub refuted : IsRefutedBy log.entries id
  pub ids : List ℕ
  pub reached : AreReached log.entries id ids
  pub exported : AreExported searched numbers log.entries ids d

-- The instances under the refutation's rows have no model, the refutation shows it, and the checker
-- accepts what is written where it is within the formats' limits. The formula that is decided may be
-- another than the one that was searched, whose clauses have these numbers in the log.
pub record IsShownFalse (decided searched : Dqbf) (numbers : List ℕ) (log : ProofLog) (form : Form)
    (d : Dqr) : Type 0 where
  pub false_formula : IsFalseFormula decided
  pub unsatisfiable : IsExpansionUnsatisfiable decided d.rows
  pub refutes : refutation_fault decided d ≡ None
  pub exported : decided ≡ searched → IsRefutationOf searched numbers log d
  pub accepted : length (written_items form d.items) ≤ max_count
      → IsJudgement decided (verdict_text form decided (is_false d)) ValidFalse
  pub within : decided ≡ searched → length log.entries ≤ few_entries
      → length (written_items form d.items) ≤ max_count

-- the verdict where the limit came first: the log's own counts
abbrev pub unknown_by : ProofLog → Verdict
unknown_by log =
    is_unknown (rounds_of log.entries) (steps_of log.entries - rounds_of log.entries)

-- the text of a circuit with its proof, as it is written
pub record IsTrueText (f : Dqbf) (log : ProofLog) (form : Form) (text : List ℕ) : Type 0 where
  pub file : AagFile
  pub proof : Dqp
  pub shown : IsShownTrue f f log form file proof
  pub is : text ≡ verdict_text form f (is_true file proof)

-- the text of a refutation, as it is written
pub record IsFalseText (f : Dqbf) (numbers : List ℕ) (log : ProofLog) (form : Form)
    (text : List ℕ) : Type 0 where
  pub refutation : Dqr
  pub shown : IsShownFalse f f numbers log form refutation
  pub is : text ≡ verdict_text form f (is_false refutation)
