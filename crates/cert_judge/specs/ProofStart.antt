-- What is known of a circuit where the text of its proof begins.
use Rattle.std.specs.Prelude.{◌≡◌, ℕ, Option, Result, Ok, Err}
use Rattle.std.specs.Option.{option_map}
use Rattle.rup_core.specs.Runs.{Run, run_fault, start, with_items}
use Rattle.cert_text.specs.CircuitProof.{first_proof_id}
use Rattle.cert_text.specs.Numbering.{numbered_from}
use Rattle.cert_text.specs.declared.circuit_proofs.Dqp.{Dqp}
use Rattle.cert_text.specs.declared.faults.CertRefusal.{CertRefusal}
use Rattle.proof_checker.specs.CircuitProof.{negated_candidate}
use Rattle.proof_checker.specs.Judging.{run_of, IsJudging}
use Rattle.proof_checker.specs.declared.judging.CircuitProving.{CircuitProving}
use Rattle.skolem_checker.specs.Checks.{Candidate, IsReadsAnswer}
use Rattle.skolem_checker.specs.SkolemCircuit.{ReadsUniversal}
use Rattle.skolem_checker.specs.declared.mapping.MapError.{MapError}
use Rattle.skolem_checker.specs.declared.mapping.MapPlace.{MapPlace}
use Rattle.cert_judge.specs.Judgement.{HasUndeclaredRead}
use Rattle.cert_judge.specs.Phases.{found_or_derived}
use Rattle.cert_judge.specs.declared.answers.Judgement.{Judgement}
use Rattle.cert_judge.specs.declared.answers.Judgement.TheVariants.{Refused}
use Rattle.cert_judge.specs.declared.answers.CertificateFault.TheVariants.{Mapping, Text}
use Rattle.cert_judge.specs.declared.proof_starts.ProofStart.{ProofStart}
use Rattle.cert_judge.specs.declared.proof_starts.ProofStart.TheVariants.{Found, Proving}

-- its reads are declared, and no item of the proof came
pub record IsFresh (c : Candidate) (p : CircuitProving) : Type 0 where
  pub reads : IsReadsAnswer (ReadsUniversal c.circuit) c.formula (Ok tt)
  pub judging : IsJudging c.formula c.circuit.netlist p
      (numbered_from (first_proof_id c.formula c.circuit.netlist))
  pub run : run_of c.formula c.circuit.netlist p ≡ start (negated_candidate c)

-- of a mapped circuit
abbrev pub IsProofStartOf : Candidate → ProofStart → Type 0
IsProofStartOf c (Found answer) = HasUndeclaredRead c answer
IsProofStartOf c (Proving p) = IsFresh c p

-- by the line of each fault of the mapping
abbrev pub IsProofStart : (MapPlace → ℕ) → Result Candidate MapError → ProofStart → Type 0
IsProofStart line_of (Err fault) (Found answer) =
    answer ≡ Refused (line_of fault.at) (Mapping fault.name)
IsProofStart line_of (Err fault) (Proving p) = ⊥
IsProofStart line_of (Ok c) proof_start = IsProofStartOf c proof_start

-- what is said of a proof behind a run, by what is read of its text
abbrev pub SaysRead : Option Judgement → Option Run → Result Dqp CertRefusal → Judgement → Type 0
SaysRead finding run (Ok d) answer =
    answer ≡ found_or_derived finding (option_map (λ r. run_fault (with_items r d.items)) run)
SaysRead finding run (Err refusal) answer = answer ≡ Refused refusal.line (Text refusal.name)
