-- That the checker accepts what is written with a verdict, and that what small logs give and what
-- short texts hold is within the formats' limits.
use Rattle.std.specs.Prelude.{◌≡◌, ◌+◌, ◌≤◌, true, List, length, None}
use Rattle.dq_lits.specs.Formula.{Dqbf}
use Rattle.dq_formula.specs.Prefix.{IsLawful}
use Rattle.hint_log.specs.Entries.{Entry, count}
use Rattle.aiger_text.specs.declared.files.AagFile.{AagFile}
use Rattle.cert_text.specs.Grammar.{IsDqrOf}
use Rattle.cert_text.specs.Header.{max_count}
use Rattle.cert_text.specs.ProofGrammar.{IsDqpOf}
use Rattle.cert_text.specs.declared.circuit_proofs.Dqp.{Dqp}
use Rattle.cert_text.specs.declared.refutations.Dqr.{Dqr}
use Rattle.cert_export.specs.ExportedCircuit.{IsWritable, is_gate_name}
use Rattle.cert_export.specs.Lines.{is_lemma}
use Rattle.proof_checker.specs.ProvedCircuit.{IsProvedCircuit}
use Rattle.refutation_checker.specs.Refutation.{refutation_fault}
use Rattle.ordered_gates.specs.Circuits.{is_sorted}
use Rattle.proof_deletions.specs.Deletions.{AreNumberedLines}
use Rattle.cert_judge.specs.Judgement.{IsJudgement}
use Rattle.cert_judge.specs.declared.answers.Judgement.TheVariants.{ValidTrue, ValidFalse}
use Rattle.verdict_texts.specs.Forms.{written_items}
use Rattle.verdict_texts.specs.declared.forms.Form.{Form}
use Rattle.verdict_texts.specs.Verdicts.{is_true, is_false, verdict_text}
use Rattle.verdict_texts.specs.Shown.{IsWithinLimits, few_entries}

-- a circuit with its proof
abbrev pub ProvedCircuitsAreAccepted : Type 0
ProvedCircuitsAreAccepted =
    (f : Dqbf) (file : AagFile) (proof : Dqp) (form : Form) → IsProvedCircuit f file proof
    → AreNumberedLines proof.items → IsWritable file
    → (form.binary ≡ true → is_sorted file.circuit ≡ true)
    → (length proof.items ≤ max_count → IsDqpOf f file.circuit proof)
    → IsWithinLimits form file proof
    → IsJudgement f (verdict_text form f (is_true file proof)) ValidTrue

-- a refutation
abbrev pub RefutationsAreAccepted : Type 0
RefutationsAreAccepted =
    (f : Dqbf) (d : Dqr) (form : Form) → IsLawful f → refutation_fault f d ≡ None
    → AreNumberedLines d.items → (length d.items ≤ max_count → IsDqrOf f d)
    → length (written_items form d.items) ≤ max_count
    → IsJudgement f (verdict_text form f (is_false d)) ValidFalse

-- a text has a byte or more for each gate and for each line of a proof, and a circuit has an input for
-- each universal
abbrev pub ShortTextsAreWithinLimits : Type 0
ShortTextsAreWithinLimits =
    (f : Dqbf) (file : AagFile) (proof : Dqp) (form : Form) → IsLawful f → IsProvedCircuit f file proof
    → is_sorted file.circuit ≡ true → length (verdict_text form f (is_true file proof)) ≤ max_count
    → IsWithinLimits form file proof

-- a circuit has an input for each universal and no more gates than the log has names of gates, and
-- a proof no more lines than the log has learned clauses and answers, and no more deletions
abbrev pub SmallLogsAreWithinLimits : Type 0
SmallLogsAreWithinLimits =
    (f : Dqbf) (entries : List Entry) (file : AagFile) (proof : Dqp) (form : Form) → IsLawful f
    → length file.circuit.gates ≤ count is_gate_name entries
    → file.circuit.max_var ≡ length f.universals + length file.circuit.gates
    → length proof.items ≤ count is_lemma entries → length entries ≤ few_entries
    → IsWithinLimits form file proof
