-- From what is lifted to a verdict's output.
use Rattle.std.proofs.Common.{◌≡◌, ◌≢◌, ◌∙◌, ◌-◌, ◌≤◌, ℕ, refl, ap, subst, arith, List, length, None, Ok, Err, Result}
use Rattle.std.specs.List.{range_with_len}
use Rattle.dq_lits.specs.Formula.{Dqbf, IsWellFormed}
use Rattle.dq_lits.specs.Henkin.{IsTrueFormula, IsFalseFormula}
use Rattle.dq_lits.specs.declared.memory.Memory.{Memory}
use Rattle.std.specs.Prelude.{IfOk}
use Rattle.dq_formula.specs.Prefix.{IsLawful}
use Rattle.dq_prep.specs.Laws.{SimplificationKeepsChoices}
use Rattle.dq_prep.specs.Simplified.{simplified_formula}
use Rattle.dq_prep.specs.Units.{AreUnits}
use Rattle.dq_prep.specs.declared.traces.Taken.{Taken}
use Rattle.hint_log.specs.Deciding.{IsUndecided}
use Rattle.hint_log.specs.Entries.{Entry, ProofLog, rounds_of, steps_of}
use Rattle.hint_log.specs.ProductiveLog.{IsProductiveLog}
use Rattle.aiger_text.specs.declared.files.AagFile.{AagFile}
use Rattle.cert_export.specs.ExportedCircuit.{IsDecidedTrue, IsNumberedFile, IsWritable, ExportedProofIsAllowed}
use Rattle.cert_export.specs.Parts.{IsExportedCircuit}
use Rattle.cert_text.specs.Grammar.{IsDqrOf}
use Rattle.cert_text.specs.Header.{max_count}
use Rattle.cert_text.specs.ProofGrammar.{IsDqpOf}
use Rattle.cert_text.specs.declared.circuit_proofs.Dqp.{Dqp}
use Rattle.cert_text.specs.declared.refutations.Dqr.{Dqr}
use Rattle.proof_deletions.specs.Deletions.{AreNumberedLines}
use Rattle.refutation_checker.specs.Refutation.{refutation_fault}
use Rattle.proof_checker.specs.ProvedCircuit.{IsProvedCircuit}
use Rattle.proof_deletions.specs.Laws.{AllowedLinesAreNumbered}
use Rattle.repair_loop.specs.Stopping.{IsStoppedAtLimit}
use Rattle.dq_runs.specs.declared.outputs.Output.{Output}
use Rattle.ordered_gates.specs.Circuits.{is_sorted}
use Rattle.lifted_proofs.specs.LiftedCircuits.{IsLiftedProof}
use Rattle.lifted_proofs.specs.Laws.{SettledFilesAreSpellable}
use Rattle.lifted_proofs.specs.SettledCircuits.{IsSettledFile}
use Rattle.verdict_texts.specs.Accepted.{ProvedCircuitsAreAccepted, RefutationsAreAccepted, ShortTextsAreWithinLimits}
use Rattle.dq_verdicts.specs.Prepared.{IsPrep, IsPreparedOutput, IsCertificate}
use Rattle.verdict_texts.specs.Shown.{IsShownTrue, IsShownFalse, unknown_by}
use Rattle.verdict_texts.specs.Verdicts.{verdict_text}
use Rattle.verdict_texts.specs.declared.forms.Form.{Form}
use Rattle.verdict_texts.proofs.NumberedFiles.{are_sorted}
use Rattle.verdict_texts.proofs.RefutedRows.{DerivationsRefute, unsatisfiable}
use Rattle.verdict_texts.proofs.ShownTexts.{proof_numbered}
use Rattle.dq_verdicts.proofs.ShownVerdicts.{printed_as}

pub true-kept : SimplificationKeepsChoices → (f g : Dqbf) (units : List Taken) → IsWellFormed f → IsLawful f
    → AreUnits f units → g ≡ simplified_formula f units → IsTrueFormula g → IsTrueFormula f
true-kept law f g units well lawful are left it =
    let was : IsTrueFormula (simplified_formula f units) = subst IsTrueFormula left it in
    (was.0, (law f units was.0 well lawful are).1 was.1)

pub shown-true : ProvedCircuitsAreAccepted → ShortTextsAreWithinLimits → (f g : Dqbf) (log : ProofLog) (id : ℕ)
    (form : Form) (file : AagFile) (proof : Dqp) → IsLawful f → f ≢ g → IsTrueFormula f
    → IsDecidedTrue g log.entries id → IsCertificate f file proof → IsShownTrue f g log form file proof
shown-true accepted short f g log id form file proof lawful other is decided e = record {
  true_formula = is;
  circuit = e.circuit;
  answered = (id, decided);
  exported = λ same. absurd (other same);
  accepted = accepted f file proof form e.circuit e.lines e.writable (λ _. e.sorted) e.allowed;
  within = λ same. absurd (other same);
  short = short f file proof form lawful e.circuit e.sorted;
}

pub shown-false : RefutationsAreAccepted → DerivationsRefute → (f g : Dqbf) (log : ProofLog) (form : Form) (d : Dqr)
    → IsLawful f → f ≢ g → IsFalseFormula f → IsDqrOf f d → refutation_fault f d ≡ None → AreNumberedLines d.items
    → IsShownFalse f g (range_with_len 1 (length g.matrix)) log form d
shown-false accepted refute f g log form d lawful other is allowed none lines = record {
  false_formula = is;
  unsatisfiable = unsatisfiable refute f d none lines;
  refutes = none;
  exported = λ same. absurd (other same);
  accepted = accepted f d form lawful none lines (λ _. allowed);
  within = λ same. absurd (other same);
}

-- what is exported can be written
pub exported-certificate : ExportedProofIsAllowed → AllowedLinesAreNumbered → (f : Dqbf) (entries : List Entry) (id : ℕ)
    (r : Result (AagFile × Dqp) Memory) → IfOk r (λ c. IsProvedCircuit f c.0 c.1) → IfOk r (λ c. IsWritable c.0)
    → IfOk r (λ c. IsNumberedFile f c.0)
    → IfOk r (λ c. length c.1.items ≤ max_count → IsDqpOf f c.0.circuit c.1)
    → IfOk r (λ c. (ids : List ℕ) × IsExportedCircuit f entries id ids c.0 c.1)
    → IfOk r (λ c. IsCertificate f c.0 c.1)
exported-certificate law numbered f entries id (Ok c) proved writable numbers allowed exported =
    record {
      circuit = proved;
      lines = proof_numbered law numbered f entries id exported.0 c.0 c.1 exported.1;
      writable = writable;
      sorted = are_sorted f c.0 numbers;
      allowed = allowed;
    }
exported-certificate law numbered f entries id (Err _) proved writable numbers allowed exported = tt

-- where the limit came first
pub left-undecided : (f g : Dqbf) (log : ProofLog) (form : Form) (output : Output) → IsPrep f g
    → IsProductiveLog g log.entries → IsUndecided g log.entries → IsStoppedAtLimit g log
    → rounds_of log.entries ≤ steps_of log.entries → output.status ≡ 0
    → output.text.items ≡ verdict_text form f (unknown_by log) → IsPreparedOutput f log form output
left-undecided f g log form output prep productive undecided stopped fewer status text = record {
  searched = g;
  prepared = prep;
  verdict = unknown_by log;
  is = record {
    productive = productive;
    shown = record {
      limit = stopped.reached;
      next = stopped.next;
      undecided = undecided;
      rounds_are = refl;
      steps_are = omega (arith, fewer);
    };
  };
  is_printed = printed_as (unknown_by log) output.status output.text.items (verdict_text form f (unknown_by log)) status
      text;
}

-- and what is lifted of it
pub lifted-certificate : SettledFilesAreSpellable → (f g : Dqbf) (units : List Taken) (file : AagFile) (proof : Dqp)
    (lifted : AagFile × Dqp) → IsCertificate g file proof → IsSettledFile f units file lifted.0
    → IsLiftedProof f lifted.0 lifted.1 → IsCertificate f lifted.0 lifted.1
lifted-certificate spellable f g units file proof lifted was settled it = record {
  circuit = it.circuit;
  lines = it.lines;
  writable = λ comment few. spellable f units
      (record { circuit = file.circuit; symbols = file.symbols; comment = comment })
      (record { circuit = lifted.0.circuit; symbols = lifted.0.symbols; comment = comment })
      (record {
        mapping = settled.mapping;
        maps = settled.maps;
        circuit = settled.circuit;
        symbols = settled.symbols;
        comment = refl;
      })
      (was.writable comment (subst (λ n. n ≤ max_count) (ap (λ n. n.max_var) settled.circuit) few));
  sorted = ap is_sorted settled.circuit ∙ was.sorted;
  allowed = λ _. it.allowed;
}
