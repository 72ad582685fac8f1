-- Streams that no line changes any more.
use Rattle.std.proofs.Common.{◌≡◌, ℕ, zero, suc, Bool, true, false, List, Option, None, Some, Result, refl, subst}
use Rattle.std.specs.Prelude.{is_some}
use Rattle.dq_lits.specs.Derivation.{ProofFault}
use Rattle.dq_text.specs.Line.{TextLine}
use Rattle.rup_core.specs.Runs.{Run}
use Rattle.cert_text.specs.Lines.{IsReading}
use Rattle.cert_text.specs.declared.faults.CertStop.{CertStop}
use Rattle.cert_stream.specs.KeptLines.{proof_seen, seen}
use Rattle.cert_stream.specs.ProofLines.{HaveAllCome, ProofBody, ProofLines, gives}
use Rattle.cert_stream.specs.ProofState as Proofs
use Rattle.cert_stream.specs.RefutationLines.{RefutationLines}
use Rattle.cert_stream.specs.RefutationState.{AnswersLines, RefutationState, answers_by}
use Rattle.refutation_checker.specs.declared.proving.RefutationProving.{RefutationProving}

stopped_same : (r : RefutationLines) (proving : Option RefutationProving) (stopped : Option CertStop)
    (some other : List TextLine) (answer : Result (Option ProofFault) CertStop) → is_some stopped ≡ true →
    AnswersLines r proving stopped some answer → AnswersLines r proving stopped other answer
stopped_same r proving (Some stop) some other answer on says = says
stopped_same r proving None some other answer on says = cc

-- memory wanted, or a line was refused
pub failed_same : (failed : Bool) (s : RefutationState) (some other : List TextLine)
    (answer : Result (Option ProofFault) CertStop) → failed ≡ true → answers_by failed s some answer →
    answers_by failed s other answer
failed_same true s some other answer on says = says
failed_same false s some other answer on says = cc

pub refused_same : (failed : Bool) (s : RefutationState) (some other : List TextLine)
    (answer : Result (Option ProofFault) CertStop) → is_some s.lines.stopped ≡ true →
    answers_by failed s some answer → answers_by failed s other answer
refused_same true s some other answer on says = says
refused_same false s some other answer on says =
    stopped_same (seen s.lines) s.proving s.lines.stopped some other answer on says

proof_stopped_same : (r : ProofLines) (run : Option Run) (stopped : Option CertStop) (some other : List TextLine)
    (answer : Result (Option (Option ProofFault)) CertStop) → is_some stopped ≡ true →
    Proofs.AnswersLines r run stopped some answer → Proofs.AnswersLines r run stopped other answer
proof_stopped_same r run (Some stop) some other answer on says = says
proof_stopped_same r run None some other answer on says = cc

pub proof_failed_same : (failed : Bool) (s : Proofs.ProofState) (some other : List TextLine)
    (answer : Result (Option (Option ProofFault)) CertStop) → failed ≡ true →
    Proofs.answers_by failed s some answer → Proofs.answers_by failed s other answer
proof_failed_same true s some other answer on says = says
proof_failed_same false s some other answer on says = cc

pub proof_refused_same : (failed : Bool) (s : Proofs.ProofState) (some other : List TextLine)
    (answer : Result (Option (Option ProofFault)) CertStop) → is_some s.lines.stopped ≡ true →
    Proofs.answers_by failed s some answer → Proofs.answers_by failed s other answer
proof_refused_same true s some other answer on says = says
proof_refused_same false s some other answer on says =
    proof_stopped_same (proof_seen s.lines) (Proofs.run_in s) s.lines.stopped some other answer on says

-- free text gives no item
body_same : (last first_id : ℕ) (body : Option ProofBody) (some other : List TextLine) (number : ℕ) →
    HaveAllCome body → gives last first_id body some number ≡ gives last first_id body other number
body_same last first_id None some other number all = absurd all
body_same last first_id (Some body) some other number all = none body body.items_left all
  where
    none : (body : ProofBody) (left : ℕ) → left ≡ 0 → gives last first_id (Some (record body { items_left = left })) some number
        ≡ gives last first_id (Some (record body { items_left = left })) other number
    none body zero is = refl
    none body (suc left) is = cc

free_same : (r : ProofLines) (run : Option Run) (stopped : Option CertStop) (some other : List TextLine)
    (answer : Result (Option (Option ProofFault)) CertStop) → HaveAllCome r.body →
    Proofs.AnswersLines r run stopped some answer → Proofs.AnswersLines r run stopped other answer
free_same r run (Some stop) some other answer all says = says
free_same r run None some other answer all says =
    subst (λ l. IsReading (Proofs.judged_whole run l) answer)
    (body_same r.last_variable r.first_id r.body some other r.number all) says

-- all lines of the proof came
pub proof_free_same : (failed : Bool) (s : Proofs.ProofState) (some other : List TextLine)
    (answer : Result (Option (Option ProofFault)) CertStop) → HaveAllCome (proof_seen s.lines).body →
    Proofs.answers_by failed s some answer → Proofs.answers_by failed s other answer
proof_free_same true s some other answer all says = says
proof_free_same false s some other answer all says =
    free_same (proof_seen s.lines) (Proofs.run_in s) s.lines.stopped some other answer all says
