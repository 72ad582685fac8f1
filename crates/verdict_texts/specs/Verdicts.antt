-- A verdict on a formula, and how it is written: the line that names it, and its evidence.
use Rattle.std.specs.Prelude.{ℕ, ◌==◌, ◌||◌, Bool, List, [], ◌++◌, Some, codes, if◌then◌else◌}
use Rattle.std.specs.Fmt.{decimal}
use Rattle.dq_lits.specs.Formula.{Dqbf}
use Rattle.aiger_text.specs.Canonical.{canonical_circuit}
use Rattle.aiger_text.specs.declared.files.AagFile.{AagFile}
use Rattle.aig_binary.specs.Written.{binary_text}
use Rattle.cert_text.specs.Canonical.{canonical, canonical_proof}
use Rattle.cert_text.specs.declared.circuit_proofs.Dqp.{Dqp}
use Rattle.cert_text.specs.declared.refutations.Dqr.{Dqr}
use Rattle.dq_runs.specs.Printed.{Printed, line}
use Rattle.verdict_texts.specs.Forms.{written_file, written_proof, written_refutation}
use Rattle.verdict_texts.specs.declared.forms.Form.{Form}

pub data Verdict : Type 0 where
  -- the formula is true: a circuit and its proof
  is_true : AagFile → Dqp → Verdict
  -- the formula is false: a refutation
  is_false : Dqr → Verdict
  -- the step limit came first, after so many rounds and learned clauses
  is_unknown : ℕ → ℕ → Verdict

-- the circuit with the proof in its comment
abbrev pub with_proof : AagFile → Dqp → AagFile
with_proof file proof =
    record {
      circuit = file.circuit;
      symbols = file.symbols;
      comment = Some (canonical_proof proof);
    }

-- `c rounds R learned L`
abbrev pub counts_text : ℕ → ℕ → List ℕ
counts_text rounds learned =
    codes "c rounds " ++ (decimal rounds ++ (codes " learned " ++ decimal learned))

-- the circuit with its proof as they are written
abbrev pub written_circuit : Form → AagFile → Dqp → AagFile
written_circuit form file proof =
    with_proof (written_file form file) (written_proof form file proof)

abbrev pub circuit_text : Form → AagFile → Dqp → List ℕ
circuit_text form file proof =
    if form.binary then binary_text (written_circuit form file proof)
    else canonical_circuit (written_circuit form file proof)

-- what stands behind the line with the verdict
abbrev pub evidence_text : Form → Dqbf → Verdict → List ℕ
evidence_text form f (is_true file proof) = circuit_text form file proof
evidence_text form f (is_false refutation) =
    canonical f.universals (written_refutation form refutation)
evidence_text form f (is_unknown rounds learned) = line (counts_text rounds learned)

abbrev pub verdict_word : Verdict → List ℕ
verdict_word (is_true _ _) = codes "s TRUE"
verdict_word (is_false _) = codes "s FALSE"
verdict_word (is_unknown _ _) = codes "s UNKNOWN"

abbrev pub verdict_text : Form → Dqbf → Verdict → List ℕ
verdict_text form f verdict =
    (if form.bare then [] else line (verdict_word verdict)) ++ evidence_text form f verdict

abbrev pub verdict_status : Verdict → ℕ
verdict_status (is_true _ _) = 10
verdict_status (is_false _) = 20
verdict_status (is_unknown _ _) = 0

-- a status that comes with a verdict
abbrev pub is_verdict_status : ℕ → Bool
is_verdict_status status = status == 10 || status == 20 || status == 0

abbrev pub printed_verdict : Form → Dqbf → Verdict → Printed
printed_verdict form f verdict =
    record { status = verdict_status verdict; text = verdict_text form f verdict }
