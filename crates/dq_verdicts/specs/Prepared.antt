-- A formula that is made simpler before the search: units are taken, each after universal reduction,
-- until none is left or a clause is empty.
use Rattle.std.specs.Prelude.{◌≡◌, ◌≢◌, ◌≤◌, ◌⊎◌, true, [], List, length}
use Rattle.dq_lits.specs.Formula.{Dqbf, IsWellFormed}
use Rattle.dq_prep.specs.Simplified.{simplified_formula, IsExhausted}
use Rattle.dq_prep.specs.Units.{AreUnits}
use Rattle.dq_prep.specs.declared.traces.Taken.{Taken}
use Rattle.dq_runs.specs.Printed.{printed}
use Rattle.dq_runs.specs.declared.outputs.Output.{Output}
use Rattle.hint_log.specs.Entries.{ProofLog}
use Rattle.hint_log.specs.ProductiveLog.{IsProductiveLog}
use Rattle.aiger_text.specs.declared.files.AagFile.{AagFile}
use Rattle.cert_export.specs.ExportedCircuit.{IsWritable}
use Rattle.cert_text.specs.Header.{max_count}
use Rattle.cert_text.specs.ProofGrammar.{IsDqpOf}
use Rattle.cert_text.specs.declared.circuit_proofs.Dqp.{Dqp}
use Rattle.proof_checker.specs.ProvedCircuit.{IsProvedCircuit}
use Rattle.ordered_gates.specs.Circuits.{is_sorted}
use Rattle.proof_deletions.specs.Deletions.{AreNumberedLines}
use Rattle.dq_verdicts.specs.Shown.{IsVerdict}
use Rattle.verdict_texts.specs.Verdicts.{Verdict, printed_verdict}
use Rattle.verdict_texts.specs.declared.forms.Form.{Form}
use Rattle.dq_verdicts.specs.declared.prepared.Prepared.{Prepared}

-- what is left where some units were taken, in any order
pub record IsPrep (f g : Dqbf) : Type 0 where
  pub units : List Taken
  pub are : AreUnits f units
  pub exhausted : IsExhausted f units
  pub left : g ≡ simplified_formula f units

-- a verdict on a formula, which the log of a search on what is left of it shows, with its text and
-- status
pub record IsPreparedOutput (f : Dqbf) (log : ProofLog) (form : Form) (output : Output) : Type 0 where
  pub searched : Dqbf
  pub prepared : IsPrep f searched
  pub verdict : Verdict
  pub is : IsVerdict f searched log form verdict
  pub is_printed : printed output ≡ printed_verdict form f verdict

-- no work, or productive work on what is left
abbrev pub IsPreparedLog : Dqbf → ProofLog → Type 0
IsPreparedLog f log =
    (log.entries ≡ []) ⊎ ((searched : Dqbf) × IsPrep f searched × IsProductiveLog searched log.entries)

-- Words of private contracts: a circuit with a proof that can be written
pub record IsCertificate (f : Dqbf) (file : AagFile) (proof : Dqp) : Type 0 where
  pub circuit : IsProvedCircuit f file proof
  pub lines : AreNumberedLines proof.items
  pub writable : IsWritable file
  pub sorted : is_sorted file.circuit ≡ true
  pub allowed : length proof.items ≤ max_count → IsDqpOf f file.circuit proof

-- what is left of the formula is another formula
pub record IsPrepared (p : Prepared) : Type 0 where
  pub formula : IsWellFormed p.formula.now
  pub left_formed : IsWellFormed p.left.now
  pub units : AreUnits p.formula.now p.trace.now
  pub prep : IsPrep p.formula.now p.left.now
  pub left_is : p.left.now ≡ simplified_formula p.formula.now p.trace.now
  pub other : p.formula.now ≢ p.left.now
