-- A refutation that is judged line by line: what may be said of it, where these lines are to come.
use Rattle.std.specs.Prelude.{◌≡◌, Bool, true, false, List, map, Option, None, Some, Result, Ok, Err}
use Rattle.dq_lits.specs.Derivation.{ProofFault, unfinished}
use Rattle.dq_lits.specs.Expansion.{instance_at}
use Rattle.dq_lits.specs.Formula.{Dqbf}
use Rattle.dq_text.specs.Line.{TextLine}
use Rattle.rup_core.specs.Items.{ProofItem}
use Rattle.rup_core.specs.ProofVerdict.{proof_fault_in}
use Rattle.rup_core.specs.Runs.{Run, run_fault, start, with_item, with_items}
use Rattle.rup_core.specs.declared.faults.ProofFault.{ProofFault as SaidFault}
use Rattle.cert_text.specs.Lines.{IsReading, and_read}
use Rattle.cert_text.specs.Numbering.{Numbering, numbered_from}
use Rattle.cert_text.specs.Scan.{first_id}
use Rattle.cert_text.specs.declared.faults.CertRefusal.{CertRefusal}
use Rattle.cert_text.specs.declared.faults.CertStop.{CertStop}
use Rattle.cert_text.specs.declared.faults.CertStop.TheVariants.{Memory}
use Rattle.cert_text.specs.declared.refutations.Dqr.{Dqr}
use Rattle.cert_stream.specs.KeptLines.{KeptLines, seen}
use Rattle.cert_stream.specs.RefutationLines.{RefutationBody, RefutationLines, lines_give}
use Rattle.refutation_checker.specs.Proving.{IsJudging}
use Rattle.refutation_checker.specs.Refutation.{normal_item, refutation_fault}
use Rattle.refutation_checker.specs.declared.proving.RefutationProving.{RefutationProving}

-- what a stream holds
pub record RefutationState : Type 0 where
  pub lines : KeptLines
  -- none before the first item
  pub proving : Option RefutationProving
  -- memory wanted while an item was judged
  pub failed : Bool

abbrev pub run_or_start : Dqbf → List (List Bool) → Option Run → Run
run_or_start f rows None = start (instance_at f rows)
run_or_start f rows (Some run) = run

-- the fault of a refutation of which these items are to come behind a run
abbrev pub fault_behind : Dqbf → Option Run → Dqr → Option ProofFault
fault_behind f run d =
    run_fault (with_items (run_or_start f d.rows run) (map (normal_item f d.rows) d.items))

-- what is wrong with the refutation, or the first fault of its text, where these lines are to come
abbrev pub judged : RefutationLines → Option Run → List TextLine
    → Result (Option ProofFault) CertRefusal
judged r run lines = and_read (lines_give r lines) (λ d. Ok (fault_behind r.formula run d))

-- the same of a whole text, by what is read of it
abbrev pub judged_whole : Dqbf → Result Dqr CertRefusal → Result (Option ProofFault) CertRefusal
judged_whole f read = and_read read (λ d. Ok (refutation_fault f d))

-- no item came
abbrev pub IsFresh : Dqbf → Option RefutationBody → Type 0
IsFresh f None = Unit {0}
IsFresh f (Some body) = body.numbering ≡ numbered_from (first_id f body.row_count)

-- all rows came before the first item
pub record HasJudged (f : Dqbf) (body : RefutationBody) (p : RefutationProving) (run : Run)
    : Type 0 where
  pub rows : body.rows_left ≡ 0
  pub judging : IsJudging f body.rows p body.numbering run

abbrev pub StandsFor : Dqbf → Option RefutationBody → RefutationProving → Run → Type 0
StandsFor f None p run = ⊥
StandsFor f (Some body) p run = HasJudged f body p run

-- the run of the items that came
abbrev pub IsRunOf : RefutationLines → Option RefutationProving → Option Run → Type 0
IsRunOf r None None = IsFresh r.formula r.body
IsRunOf r None (Some run) = ⊥
IsRunOf r (Some p) None = ⊥
IsRunOf r (Some p) (Some run) = StandsFor r.formula r.body p run

abbrev pub AnswersLines : RefutationLines → Option RefutationProving → Option CertStop
    → List TextLine → Result (Option ProofFault) CertStop → Type 0
AnswersLines r proving (Some stop) lines answer = answer ≡ Err stop
AnswersLines r proving None lines answer =
    (run : Option Run) → IsRunOf r proving run → IsReading (judged r run lines) answer

abbrev pub answers_by : Bool → RefutationState → List TextLine
    → Result (Option ProofFault) CertStop → Type 0
answers_by true s lines answer = answer ≡ Err Memory
answers_by false s lines answer =
    AnswersLines (seen s.lines) s.proving s.lines.stopped lines answer

-- the answer is right where these lines are to come
abbrev pub MayAnswer : RefutationState → List TextLine → Result (Option ProofFault) CertStop
    → Type 0
MayAnswer s lines answer = answers_by s.failed s lines answer

-- the answer of a call as the definitions see it
abbrev pub answer_in : Result (Option SaidFault) CertStop → Result (Option ProofFault) CertStop
answer_in (Ok fault) = Ok (proof_fault_in fault)
answer_in (Err stop) = Err stop

-- the run behind a line's item
abbrev pub run_behind : Dqbf → List (List Bool) → Option Run → Option ProofItem → Option Run
run_behind f rows run None = run
run_behind f rows run (Some item) =
    Some (with_item (run_or_start f rows run) (normal_item f rows item))

-- what is wrong with what was judged
abbrev pub IsFaultOf : Option RefutationProving → Option SaidFault → Type 0
IsFaultOf None fault = proof_fault_in fault ≡ Some unfinished
IsFaultOf (Some p) fault =
    (f : Dqbf) (rows : List (List Bool)) (at : Numbering) (run : Run) → IsJudging f rows p at run
    → proof_fault_in fault ≡ run_fault run
