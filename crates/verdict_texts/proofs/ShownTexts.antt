-- From what the exports answer to what is shown.
use Rattle.std.proofs.Common.{◌≡◌, ◌∙◌, ◌*◌, ◌≤◌, ℕ, sym, ap, subst, arith, List, length, map, None}
use Rattle.dq_lits.specs.Formula.{Dqbf, IsWellFormed}
use Rattle.dq_lits.specs.Henkin.{IsTrueFormula, IsFalseFormula}
use Rattle.dq_formula.specs.Prefix.{IsLawful}
use Rattle.rup_core.specs.Items.{ProofItem, derived}
use Rattle.hint_log.specs.Conditions.{AreLogged}
use Rattle.hint_log.specs.Entries.{Entry, ProofLog, count}
use Rattle.hint_log.specs.Reached.{AreReached}
use Rattle.aiger_text.specs.declared.files.AagFile.{AagFile}
use Rattle.cert_text.specs.CircuitProof.{first_proof_id}
use Rattle.cert_text.specs.Grammar.{IsDqrOf}
use Rattle.cert_text.specs.Header.{max_count}
use Rattle.cert_text.specs.Scan.{first_id}
use Rattle.cert_text.specs.ProofGrammar.{IsDqpOf}
use Rattle.cert_text.specs.declared.circuit_proofs.Dqp.{Dqp}
use Rattle.cert_text.specs.declared.refutations.Dqr.{Dqr}
use Rattle.cert_export.specs.CircuitPart.{exported_netlist}
use Rattle.expansion.specs.Table.{IsRefutedBy}
use Rattle.cert_export.specs.Expansion.{used_rows}
use Rattle.cert_export.specs.Exportable.{AreExported, AreExportedItems}
use Rattle.cert_export.specs.Exported.{ExportedLinesAreAllowed, CanExportFalse, exported_steps}
use Rattle.cert_export.specs.ExportedCircuit.{IsDecidedTrue, IsNumberedFile, IsWritable, ExportedProofIsAllowed, proof_steps, is_gate_name}
use Rattle.cert_export.specs.Lines.{is_lemma}
use Rattle.cert_export.specs.Parts.{IsExportedCircuit}
use Rattle.proof_checker.specs.ProvedCircuit.{IsProvedCircuit}
use Rattle.refutation_checker.specs.Refutation.{refutation_fault}
use Rattle.proof_deletions.specs.Deletions.{AreNumberedLines}
use Rattle.proof_deletions.specs.Laws.{AllowedLinesAreNumbered, DeletionsAreAllowed}
use Rattle.verdict_texts.specs.Accepted.{ProvedCircuitsAreAccepted, RefutationsAreAccepted, ShortTextsAreWithinLimits, SmallLogsAreWithinLimits}
use Rattle.verdict_texts.specs.Forms.{written_items}
use Rattle.verdict_texts.specs.declared.forms.Form.{Form}
use Rattle.verdict_texts.specs.Shown.{IsShownTrue, IsShownFalse, few_entries}
use Rattle.verdict_texts.proofs.NumberedFiles.{are_sorted}
use Rattle.verdict_texts.proofs.RefutedRows.{DerivationsRefute, unsatisfiable}
use Rattle.verdict_texts.proofs.WrittenForms.{written_few}
use Rattle.verdict_texts.proofs.Counts.{count_few}

-- what the export of a circuit gives
pub record IsWrittenCircuit (f : Dqbf) (entries : List Entry) (id : ℕ) (file : AagFile) (proof : Dqp) : Type 0 where
  pub proved : IsProvedCircuit f file proof
  pub gates : length file.circuit.gates ≤ count is_gate_name entries
  pub numbers : IsNumberedFile f file
  pub few : length proof.items ≤ count is_lemma entries
  pub spelled : IsWritable file
  pub allowed : length proof.items ≤ max_count → IsDqpOf f file.circuit proof
  pub exported : (ids : List ℕ) × IsExportedCircuit f entries id ids file proof
  pub lines : AreNumberedLines proof.items

-- the lines of what is exported are numbered
pub proof_numbered : ExportedProofIsAllowed → AllowedLinesAreNumbered → (f : Dqbf) (entries : List Entry) (id : ℕ)
    (ids : List ℕ) (file : AagFile) (proof : Dqp)
    → IsExportedCircuit f entries id ids file proof → AreNumberedLines proof.items
proof_numbered allowed numbered f entries id ids file proof e =
    let d = e.from.decided in
    let (steps, (r, renaming, are), items) = e.lines in
    subst AreNumberedLines (sym (items ∙ ap (map derived) are))
    (numbered _ (first_proof_id f (exported_netlist f entries e.part)) (proof_steps f entries e.part ids r)
    (omega arith)
    (allowed f entries id e.part ids r d.well_formed d.logged d.inputs d.givens e.from.part d.reached renaming))

pub refutation_numbered : ExportedLinesAreAllowed → AllowedLinesAreNumbered → (f : Dqbf) (live : List ℕ)
    (entries : List Entry) (id : ℕ) (ids : List ℕ) (items : List ProofItem)
    → IsWellFormed f → AreLogged entries → CanExportFalse f live entries id → AreReached entries id ids
    → AreExportedItems f live entries ids items → AreNumberedLines items
refutation_numbered allowed numbered f live entries id ids items well logged can reached e =
    let (steps, (r, renaming, are), same) = e in
    subst AreNumberedLines (sym (same ∙ ap (map derived) are))
    (numbered _ (first_id f (length (used_rows entries ids))) (exported_steps f live entries ids r) (omega arith)
    (allowed f live entries id ids r well logged can.instances can.refuted reached renaming))

pub shown_true : ProvedCircuitsAreAccepted → SmallLogsAreWithinLimits → ShortTextsAreWithinLimits →
    (f : Dqbf) (log : ProofLog) (id : ℕ) (form : Form) (file : AagFile) (proof : Dqp)
    → IsLawful f → IsTrueFormula f → IsDecidedTrue f log.entries id → IsWrittenCircuit f log.entries id file proof →
    IsShownTrue f f log form file proof
shown_true accepted within short f log id form file proof lawful is_so decided e = record {
  true_formula = is_so;
  circuit = e.proved;
  answered = (id, decided);
  exported = λ _. record {
    id = id;
    decided = decided;
    ids = e.exported.0;
    exported = e.exported.1;
    circuit = e.proved;
    numbers = e.numbers;
  };
  accepted = accepted f file proof form e.proved e.lines e.spelled
      (λ _. are_sorted f file e.numbers) e.allowed;
  within = λ _. within f log.entries file proof form lawful e.gates e.numbers.max_var e.few;
  short = short f file proof form lawful e.proved (are_sorted f file e.numbers);
}

-- what the export of a refutation gives
pub record IsWrittenRefutation (f : Dqbf) (numbers : List ℕ) (entries : List Entry) (id : ℕ) (d : Dqr) : Type 0 where
  pub accepted : refutation_fault f d ≡ None
  pub few : length d.items ≤ count is_lemma entries
  pub spelled : length d.items ≤ max_count → IsDqrOf f d
  pub lines : (ids : List ℕ) × AreReached entries id ids × AreExported f numbers entries ids d
  pub numbered : AreNumberedLines d.items

few_lines : (entries : List Entry) (steps written : ℕ) → steps ≤ count is_lemma entries → written ≤ 2 * steps →
    length entries ≤ few_entries → written ≤ max_count
few_lines entries steps written few twice small =
    let all = count_few is_lemma entries in omega (arith, few, twice, small, all)

pub shown_false : RefutationsAreAccepted → DerivationsRefute → DeletionsAreAllowed → (f : Dqbf) (numbers : List ℕ) (log : ProofLog) (id : ℕ)
    (form : Form) (d : Dqr)
    → IsLawful f → IsFalseFormula f → IsRefutedBy log.entries id
    → IsWrittenRefutation f numbers log.entries id d → IsShownFalse f f numbers log form d
shown_false accepted refute laws f numbers log id form d lawful is_so refuted e = record {
  false_formula = is_so;
  unsatisfiable = unsatisfiable refute f d e.accepted e.numbered;
  refutes = e.accepted;
  exported = λ _. record {
    id = id;
    refuted = refuted;
    ids = e.lines.0;
    reached = e.lines.1;
    exported = e.lines.2;
  };
  accepted = accepted f d form lawful e.accepted e.numbered e.spelled;
  within = λ _. few_lines log.entries (length d.items) (length (written_items form d.items)) e.few
      (written_few laws form d.items);
}
