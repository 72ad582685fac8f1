-- What may be answered behind a line may be answered before it, and what is answered at the end.
use Rattle.std.proofs.Common.{◌≡◌, ℕ, zero, suc, Bool, false, List, [], ◌∷◌, ◌++◌, map, Option, None, Some, Result, Ok, Err, refl, sym, ◌∙◌, ap, subst}
use Rattle.std.specs.Prelude.{IfNone, IfSome}
use Rattle.dq_lits.specs.Derivation.{ProofFault}
use Rattle.dq_lits.specs.Expansion.{instance_at}
use Rattle.dq_lits.specs.Formula.{Dqbf}
use Rattle.dq_text.specs.Line.{TextLine}
use Rattle.rup_core.specs.ProofVerdict.{proof_fault_in}
use Rattle.rup_core.specs.Runs.{Run, run_fault, with_items}
use Rattle.rup_core.specs.declared.faults.ProofFault.{ProofFault as SaidFault}
use Rattle.rup_core.proofs.DeletedClauses.{going_is_fault}
use Rattle.cert_text.specs.Lines.{IsReading, and_read, at_line}
use Rattle.cert_text.specs.Numbering.{Numbering}
use Rattle.cert_text.specs.Scan.{read_lines}
use Rattle.cert_text.specs.declared.faults.CertRefusal.{CertRefusal}
use Rattle.cert_text.specs.declared.faults.CertStop.{CertStop}
use Rattle.cert_text.specs.declared.faults.CertStop.TheVariants.{Refused, Memory}
use Rattle.cert_text.specs.declared.refutations.Dqr.{Dqr}
use Rattle.cert_text.specs.declared.versions.Version.{Version}
use Rattle.cert_stream.specs.KeptLines.{KeptLines, seen}
use Rattle.cert_stream.specs.LineAnswer.{IsLineAnswer}
use Rattle.cert_stream.specs.RefutationLines.{MayCome, RefutationBody, RefutationLines, body_gives, gives, in_front, lines_give, no_lines, rows_of, rows_so_far, with_line}
use Rattle.refutation_checker.specs.Refutation.{normal_item}
use Rattle.refutation_checker.specs.declared.proving.RefutationProving.{RefutationProving}
use Rattle.cert_stream.specs.RefutationInside.{GoesOn}
use Rattle.cert_stream.specs.RefutationState.{AnswersLines, IsFaultOf, IsRunOf, RefutationState, StandsFor, answers_by, fault_behind, judged, judged_whole, run_behind, run_or_start}
use Rattle.cert_stream.proofs.JudgedLines.{judged_step}
use Rattle.cert_stream.proofs.LineSteps.{LineStep, header_step, row_step, item_step, blank_step, step_of}

abbrev Answer : Type 0
Answer = Result (Option ProofFault) CertStop

-- what the lines to come give, line by line
abbrev pub ReadsByLine : Type 0
ReadsByLine = (r : RefutationLines) (line : TextLine) (lines : List TextLine) → line.number ≡ r.number →
    lines_give r (line ∷ lines)
    ≡ and_read (at_line line.number (with_line r line.text)) (λ next. in_front next.item (lines_give next lines))

abbrev line_of : List ℕ → ℕ → List ℕ → TextLine
line_of text number behind = record { text = text; number = number; behind = behind }

going : (r next : RefutationLines) → LineStep r next → next.stopped ≡ r.stopped
going r next (header_step counts none) = refl
going r next (row_step body row there more) = refl
going r next (item_step body item there) = refl
going r next (blank_step body there) = refl

-- a line was read, and its item judged
pub read_on : ReadsByLine → (old new : KeptLines) (before after : Option RefutationProving) (text : List ℕ) →
    old.stopped ≡ None → with_line (seen old) text ≡ Ok (seen new) →
    IfSome new.item (MayCome old.formula (seen old).body) → GoesOn new before after →
    (behind : List ℕ) (lines : List TextLine) (answer : Answer) →
    AnswersLines (seen new) after new.stopped lines answer →
    AnswersLines (seen old) before old.stopped (line_of text old.number behind ∷ lines) answer
read_on law old new before after text none read may goes behind lines answer says =
    let r = seen old in
    let next = seen new in
    let line = line_of text old.number behind in
    let step = step_of r next text read in
    let by_run = subst (λ o. AnswersLines next after o lines answer) (going r next step ∙ none) says in
    subst (λ o. AnswersLines r before o (line ∷ lines) answer) (sym none) (λ run run_is.
    subst (λ j. IsReading j answer)
    (sym (judged_step r next run line lines step may
    (law r line lines refl ∙ ap (λ w. and_read (at_line line.number w) (λ n. in_front n.item (lines_give n lines)))
    read)))
    (by_run (run_behind r.formula (rows_so_far next.body) run next.item)
    (goes r run (record { text = text; read = read; item_is = refl; may_come = may }) run_is)))

refused_lines : ReadsByLine → (old : KeptLines) (text : List ℕ) (new : RefutationLines) (stop : CertStop) →
    IsLineAnswer (with_line (seen old) text) old.number (Err stop) new → (run : Option Run) (behind : List ℕ)
    (lines : List TextLine) → IsReading (judged (seen old) run (line_of text old.number behind ∷ lines)) (Err stop)
refused_lines law old text new (Refused fault) is run behind lines =
    let r = seen old in
    let line = line_of text old.number behind in
    ap (λ l. and_read l (λ d. Ok (fault_behind r.formula run d))) (law r line lines refl
    ∙ ap (λ w. and_read (at_line line.number w) (λ n. in_front n.item (lines_give n lines))) is.0
    ∙ ap (λ n. Err (record { line = n; name = fault.name })) (sym is.1))
refused_lines law old text new Memory is run behind lines = tt

-- the line stopped the reading, or it had stopped
pub stopped_back : ReadsByLine → (old : KeptLines) (before : Option RefutationProving) (text : List ℕ)
    (new : RefutationLines) (stop : CertStop) (o : Option CertStop) →
    IfNone o (IsLineAnswer (with_line (seen old) text) old.number (Err stop) new) →
    IfSome o (λ s. (λ (r : Result (Unit {0}) CertStop). r) (Err stop) ≡ Err s) →
    (behind : List ℕ) (lines : List TextLine) (answer : Answer) → answer ≡ Err stop →
    AnswersLines (seen old) before o (line_of text old.number behind ∷ lines) answer
stopped_back law old before text new stop None fresh ended behind lines answer is =
    λ run run_is. subst (λ a. IsReading (judged (seen old) run (line_of text old.number behind ∷ lines)) a) (sym is)
    (refused_lines law old text new stop fresh run behind lines)
stopped_back law old before text new stop (Some s) fresh ended behind lines answer is =
    let same : stop ≡ s = cc in is ∙ ap Err same

-- where no line comes any more, no item does
nothing_left : (f : Dqbf) (version : Version) (count : ℕ) (rows : List (List Bool)) (rows_left : ℕ) (n : Numbering)
    (items_left number : ℕ) (d : Dqr) → body_gives f (record {
      version = version;
      row_count = count;
      rows = rows;
      rows_left = rows_left;
      numbering = n;
      items_left = items_left;
    }) [] number ≡ Ok d → d.items ≡ []
nothing_left f version count rows (suc k) n items_left number d is = cc
nothing_left f version count rows zero n (suc k) number d is = cc
nothing_left f version count rows zero n zero number d is =
    let same : (λ (x : Dqr). x) (record { rows = rows ++ []; items = [] }) ≡ d = cc in
    sym (ap (λ (x : Dqr). x.items) same)

no_items : (f : Dqbf) (body : Option RefutationBody) (number : ℕ) (d : Dqr) → gives f body [] number ≡ Ok d →
    d.items ≡ []
no_items f None number d is = cc
no_items f (Some b) number d is =
    nothing_left f b.version b.row_count b.rows b.rows_left b.numbering b.items_left number d is

run_says : (r : RefutationLines) (proving : Option RefutationProving) (fault : Option SaidFault) (run : Option Run)
    (rows : List (List Bool)) → IsFaultOf proving fault → IsRunOf r proving run →
    run_fault (run_or_start r.formula rows run) ≡ proof_fault_in fault
run_says r None fault None rows says fresh = sym says
run_says r None fault (Some run) rows says is = absurd is
run_says r (Some p) fault None rows says is = absurd is
run_says r (Some p) fault (Some run) rows says is = by_body r.body is
  where
    by_body : (body : Option RefutationBody) → StandsFor r.formula body p run → run_fault run ≡ proof_fault_in fault
    by_body None stands = absurd stands
    by_body (Some b) stands = sym (says r.formula b.rows b.numbering run stands.judging)

end_judged : (r : RefutationLines) (proving : Option RefutationProving) (fault : Option SaidFault)
    (rows : List (List Bool)) (read : Result Dqr CertRefusal) → lines_give r [] ≡ read → rows_of read ≡ Ok rows →
    IsFaultOf proving fault → (run : Option Run) → IsRunOf r proving run →
    and_read read (λ d. Ok (fault_behind r.formula run d)) ≡ Ok (proof_fault_in fault)
end_judged r proving fault rows (Ok d) is whole says run run_is =
    ap (λ items. Ok (run_fault (with_items (run_or_start r.formula d.rows run)
    (map (normal_item r.formula d.rows) items)))) (no_items r.formula r.body r.number d is)
    ∙ ap Ok (run_says r proving fault run d.rows says run_is)
end_judged r proving fault rows (Err first) is whole says run run_is = cc

-- the text ends
pub ended : (lines : KeptLines) (proving : Option RefutationProving) (fault : Option SaidFault)
    (rows : List (List Bool)) (o : Option CertStop) →
    IfNone o (IsReading (rows_of (lines_give (seen lines) [])) (Ok rows)) →
    IfSome o (λ s. (λ (r : Result (List (List Bool)) CertStop). r) (Ok rows) ≡ Err s) →
    IsFaultOf proving fault → AnswersLines (seen lines) proving o [] (Ok (proof_fault_in fault))
ended lines proving fault rows None fresh stopped says =
    λ run run_is. end_judged (seen lines) proving fault rows (lines_give (seen lines) []) refl fresh says run run_is
ended lines proving fault rows (Some s) fresh stopped says = cc

whole_judged : (f : Dqbf) (read : Result Dqr CertRefusal) →
    and_read read (λ d. Ok (fault_behind f None d)) ≡ judged_whole f read
whole_judged f (Ok d) = ap Ok (going_is_fault false (instance_at f d.rows) (map (normal_item f d.rows) d.items))
whole_judged f (Err fault) = refl

-- before the first line
pub begun : (f : Dqbf) (first : ℕ) (kept : KeptLines) → seen kept ≡ no_lines f first → (lines : List TextLine)
    (answer : Answer) → AnswersLines (seen kept) None kept.stopped lines answer →
    IsReading (judged_whole f (read_lines f lines first)) answer
begun f first kept is lines answer says =
    let by_run = subst (λ (r : RefutationLines). AnswersLines r None r.stopped lines answer) is says in
    subst (λ j. IsReading j answer) (whole_judged f (read_lines f lines first)) (by_run None tt)

-- where memory didn't want
pub unless_failed : (b : Bool) (s : RefutationState) (lines : List TextLine) (answer : Answer) → b ≡ false →
    AnswersLines (seen s.lines) s.proving s.lines.stopped lines answer → answers_by b s lines answer
unless_failed b s lines answer going says = subst (λ c. answers_by c s lines answer) (sym going) says

pub answers_going : (b : Bool) (s : RefutationState) (lines : List TextLine) (answer : Answer) → b ≡ false →
    answers_by b s lines answer → AnswersLines (seen s.lines) s.proving s.lines.stopped lines answer
answers_going b s lines answer going says = subst (λ c. answers_by c s lines answer) going says

pub none_stopped : (o : Option CertStop) → IfSome o (λ s. (λ (r : Result (Unit {0}) CertStop). r) (Ok tt) ≡ Err s) →
    o ≡ None
none_stopped None ended = refl
none_stopped (Some s) ended = cc

pub if_none_holds : (o : Option CertStop) (P : Type 0) → o ≡ None → IfNone o P → P
if_none_holds None P none holds = holds
if_none_holds (Some s) P none holds = absurd (apart none)
  where
    apart : Some s ≡ None → ⊥
    apart h = cc
