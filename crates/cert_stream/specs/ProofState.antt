-- A circuit's proof that is judged line by line: what may be said of it, where these lines are to
-- come.
use Rattle.std.specs.Prelude.{◌≡◌, ℕ, Bool, true, false, List, Option, None, Some, Result, Ok, Err}
use Rattle.std.specs.Option.{option_map}
use Rattle.dq_lits.specs.Derivation.{ProofFault}
use Rattle.dq_lits.specs.Formula.{Dqbf}
use Rattle.dq_text.specs.Line.{TextLine}
use Rattle.circuit_plain.specs.Netlist.{Netlist}
use Rattle.rup_core.specs.Items.{ProofItem}
use Rattle.rup_core.specs.ProofVerdict.{proof_fault_in}
use Rattle.rup_core.specs.Runs.{Run, run_fault, with_item, with_items}
use Rattle.rup_core.specs.declared.faults.ProofFault.{ProofFault as SaidFault}
use Rattle.cert_text.specs.Lines.{IsReading, and_read}
use Rattle.cert_text.specs.Numbering.{Numbering, numbered_from}
use Rattle.cert_text.specs.declared.circuit_proofs.Dqp.{Dqp}
use Rattle.cert_text.specs.declared.faults.CertRefusal.{CertRefusal}
use Rattle.cert_text.specs.declared.faults.CertStop.{CertStop}
use Rattle.cert_text.specs.declared.faults.CertStop.TheVariants.{Memory}
use Rattle.cert_stream.specs.KeptLines.{KeptProofLines, proof_seen}
use Rattle.cert_stream.specs.ProofLines.{ProofBody, ProofLines, lines_give}
use Rattle.proof_checker.specs.Judging.{run_of}
use Rattle.proof_checker.specs.declared.judging.CircuitProving.{CircuitProving}

-- what a stream holds
pub record ProofState : Type 0 where
  pub formula : Dqbf
  pub netlist : Netlist
  pub lines : KeptProofLines
  -- none where something else is said unless a line is refused
  pub proving : Option CircuitProving
  -- memory wanted while an item was judged
  pub failed : Bool

-- what is said of the items to come behind a run, if one is judged
abbrev pub fault_behind : Option Run → List ProofItem → Option (Option ProofFault)
fault_behind run items = option_map (λ r. run_fault (with_items r items)) run

-- what is wrong with the proof, or the first fault of its text, where these lines are to come
abbrev pub judged : ProofLines → Option Run → List TextLine
    → Result (Option (Option ProofFault)) CertRefusal
judged r run lines = and_read (lines_give r lines) (λ d. Ok (fault_behind run d.items))

-- the same of a whole text, by what is read of it
abbrev pub judged_whole : Option Run → Result Dqp CertRefusal
    → Result (Option (Option ProofFault)) CertRefusal
judged_whole run read = and_read read (λ d. Ok (fault_behind run d.items))

abbrev pub run_in : ProofState → Option Run
run_in s = option_map (run_of s.formula s.netlist) s.proving

abbrev pub AnswersLines : ProofLines → Option Run → Option CertStop → List TextLine
    → Result (Option (Option ProofFault)) CertStop → Type 0
AnswersLines r run (Some stop) lines answer = answer ≡ Err stop
AnswersLines r run None lines answer = IsReading (judged r run lines) answer

abbrev pub answers_by : Bool → ProofState → List TextLine
    → Result (Option (Option ProofFault)) CertStop → Type 0
answers_by true s lines answer = answer ≡ Err Memory
answers_by false s lines answer =
    AnswersLines (proof_seen s.lines) (run_in s) s.lines.stopped lines answer

-- the answer is right where these lines are to come
abbrev pub MayAnswer : ProofState → List TextLine → Result (Option (Option ProofFault)) CertStop
    → Type 0
MayAnswer s lines answer = answers_by s.failed s lines answer

-- the answer of a call as the definitions see it
abbrev pub answer_in : Result (Option (Option SaidFault)) CertStop
    → Result (Option (Option ProofFault)) CertStop
answer_in (Ok said) = Ok (option_map proof_fault_in said)
answer_in (Err stop) = Err stop

-- the ids of the lines to come
abbrev pub numbering_in : ℕ → Option ProofBody → Numbering
numbering_in first_id None = numbered_from first_id
numbering_in first_id (Some body) = body.numbering

abbrev pub numbering_of : ProofLines → Numbering
numbering_of r = numbering_in r.first_id r.body

abbrev pub run_behind : Option ProofItem → Run → Run
run_behind None run = run
run_behind (Some item) run = with_item run item
