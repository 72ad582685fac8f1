-- What may be answered behind a line of a circuit's proof may be answered before it, and what is answered
-- at the end.
use Rattle.std.proofs.Common.{◌≡◌, ℕ, zero, suc, Bool, false, List, [], ◌∷◌, Option, None, Some, Result, Ok, Err, refl, sym, ◌∙◌, ap, subst}
use Rattle.std.specs.Prelude.{IfNone, IfSome}
use Rattle.std.specs.Option.{option_map}
use Rattle.dq_lits.specs.Derivation.{ProofFault}
use Rattle.dq_lits.specs.Formula.{Dqbf}
use Rattle.dq_text.specs.Line.{TextLine}
use Rattle.circuit_plain.specs.Netlist.{Netlist}
use Rattle.rup_core.specs.Items.{ProofItem}
use Rattle.rup_core.specs.Runs.{Run, run_fault}
use Rattle.cert_text.specs.CircuitProof.{is_proof_variable, read_proof}
use Rattle.cert_text.specs.Grammar.{IsItem}
use Rattle.cert_text.specs.Lines.{IsReading, and_read, at_line}
use Rattle.cert_text.specs.Numbering.{Numbering}
use Rattle.cert_text.specs.Variables.{is_up_to}
use Rattle.cert_text.specs.declared.circuit_proofs.Dqp.{Dqp}
use Rattle.cert_text.specs.declared.faults.CertRefusal.{CertRefusal}
use Rattle.cert_text.specs.declared.faults.CertStop.{CertStop}
use Rattle.cert_text.specs.declared.faults.CertStop.TheVariants.{Refused, Memory}
use Rattle.cert_text.specs.declared.versions.Version.{Version}
use Rattle.cert_stream.specs.KeptLines.{KeptProofLines, proof_seen}
use Rattle.cert_stream.specs.LineAnswer.{IsLineAnswer}
use Rattle.cert_stream.specs.ProofLines.{MayCome, ProofBody, ProofLines, body_gives, gives, in_front, lines_give, no_lines, whole_of, with_line}
use Rattle.proof_checker.specs.Judging.{MayJudge, run_of}
use Rattle.proof_checker.specs.declared.judging.CircuitProving.{CircuitProving}
use Rattle.cert_stream.specs.ProofInside.{HasNext, runs_behind}
use Rattle.cert_stream.specs.ProofState.{AnswersLines, ProofState, answers_by, fault_behind, judged, judged_whole, numbering_in, numbering_of, run_in}
use Rattle.cert_stream.proofs.ProofLineSteps.{ReadsByLine, going, judged_step, numbering_behind, numbering_step, same_variables, step_of}

abbrev Answer : Type 0
Answer = Result (Option (Option ProofFault)) CertStop

abbrev line_of : List ℕ → ℕ → List ℕ → TextLine
line_of text number behind = record { text = text; number = number; behind = behind }

-- a line was read, and its item judged
pub read_on : ReadsByLine → (old new : KeptProofLines) (before after : Option Run) (text : List ℕ) →
    old.stopped ≡ None → with_line (proof_seen old) text ≡ Ok (proof_seen new) →
    after ≡ runs_behind new.item before → (behind : List ℕ) (lines : List TextLine) (answer : Answer) →
    AnswersLines (proof_seen new) after new.stopped lines answer →
    AnswersLines (proof_seen old) before old.stopped (line_of text old.number behind ∷ lines) answer
read_on law old new before after text none read runs behind lines answer says =
    let r = proof_seen old in
    let next = proof_seen new in
    let line = line_of text old.number behind in
    let now = subst (λ o. AnswersLines next after o lines answer) (going r next text (step_of r next text read) ∙ none)
    says in
    subst (λ o. AnswersLines r before o (line ∷ lines) answer) (sym none)
    (subst (λ j. IsReading j answer) (sym (judged_step law r next before line lines refl read))
    (subst (λ o. IsReading (judged next o lines) answer) runs now))

refused_lines : ReadsByLine → (old : KeptProofLines) (text : List ℕ) (new : ProofLines) (stop : CertStop) →
    IsLineAnswer (with_line (proof_seen old) text) old.number (Err stop) new → (run : Option Run) (behind : List ℕ)
    (lines : List TextLine) → IsReading (judged (proof_seen old) run (line_of text old.number behind ∷ lines))
    (Err stop)
refused_lines law old text new (Refused fault) is run behind lines =
    let r = proof_seen old in
    let line = line_of text old.number behind in
    ap (λ l. and_read l (λ d. Ok (fault_behind run d.items))) (law r line lines refl
    ∙ ap (λ w. and_read (at_line line.number w) (λ n. in_front n.item (lines_give n lines))) is.0
    ∙ ap (λ n. Err (record { line = n; name = fault.name })) (sym is.1))
refused_lines law old text new Memory is run behind lines = tt

-- the line stopped the reading, or it had stopped
pub stopped_back : ReadsByLine → (old : KeptProofLines) (run : Option Run) (text : List ℕ) (new : ProofLines)
    (stop : CertStop) (o : Option CertStop) →
    IfNone o (IsLineAnswer (with_line (proof_seen old) text) old.number (Err stop) new) →
    IfSome o (λ s. (λ (r : Result (Unit {0}) CertStop). r) (Err stop) ≡ Err s) →
    (behind : List ℕ) (lines : List TextLine) (answer : Answer) → answer ≡ Err stop →
    AnswersLines (proof_seen old) run o (line_of text old.number behind ∷ lines) answer
stopped_back law old run text new stop None fresh ended behind lines answer is =
    subst (λ a. IsReading (judged (proof_seen old) run (line_of text old.number behind ∷ lines)) a) (sym is)
    (refused_lines law old text new stop fresh run behind lines)
stopped_back law old run text new stop (Some s) fresh ended behind lines answer is =
    let same : stop ≡ s = cc in is ∙ ap Err same

-- before the first line
given : (f : Dqbf) (net : Netlist) (first : ℕ) (lines : List TextLine) →
    lines_give (no_lines f net first) lines ≡ read_proof f net lines first
given f net first [] = refl
given f net first (line ∷ lines) = refl

pub begun : (f : Dqbf) (net : Netlist) (first : ℕ) (kept : KeptProofLines) (run : Option Run) →
    proof_seen kept ≡ no_lines f net first → (lines : List TextLine) (answer : Answer) →
    AnswersLines (proof_seen kept) run kept.stopped lines answer →
    IsReading (judged_whole run (read_proof f net lines first)) answer
begun f net first kept run is lines answer says =
    let now = subst (λ (r : ProofLines). AnswersLines r run r.stopped lines answer) is says in
    subst (λ read. IsReading (judged_whole run read) answer) (given f net first lines) now

-- where no line comes any more, no item does
nothing_left : (last : ℕ) (version : Version) (n : Numbering) (items_left number : ℕ) (d : Dqp) →
    body_gives last (record { version = version; numbering = n; items_left = items_left }) [] number ≡ Ok d →
    d.items ≡ []
nothing_left last version n (suc k) number d is = cc
nothing_left last version n zero number d is =
    let same : (λ (x : Dqp). x) (record { items = [] }) ≡ d = cc in sym (ap (λ (x : Dqp). x.items) same)

no_items : (last first_id : ℕ) (body : Option ProofBody) (number : ℕ) (d : Dqp) →
    gives last first_id body [] number ≡ Ok d → d.items ≡ []
no_items last first_id None number d is = cc
no_items last first_id (Some b) number d is = nothing_left last b.version b.numbering b.items_left number d is

end_judged : (r : ProofLines) (run : Option Run) (said : Option (Option ProofFault)) (read : Result Dqp CertRefusal) →
    lines_give r [] ≡ read → whole_of read ≡ Ok tt → said ≡ fault_behind run [] →
    and_read read (λ d. Ok (fault_behind run d.items)) ≡ Ok said
end_judged r run said (Ok d) is whole says =
    ap (λ items. Ok (fault_behind run items)) (no_items r.last_variable r.first_id r.body r.number d is)
    ∙ ap Ok (sym says)
end_judged r run said (Err fault) is whole says = cc

-- the text ends
pub ended : (lines : KeptProofLines) (run : Option Run) (said : Option (Option ProofFault)) (o : Option CertStop) →
    IfNone o (IsReading (whole_of (lines_give (proof_seen lines) [])) (Ok tt)) →
    IfSome o (λ s. (λ (r : Result (Unit {0}) CertStop). r) (Ok tt) ≡ Err s) →
    said ≡ fault_behind run [] → AnswersLines (proof_seen lines) run o [] (Ok said)
ended lines run said None fresh stopped says =
    end_judged (proof_seen lines) run said (lines_give (proof_seen lines) []) refl fresh says
ended lines run said (Some s) fresh stopped says = cc

-- what is said of the items so far
pub said_is : (f : Dqbf) (net : Netlist) (proving : Option CircuitProving) (said : Option (Option ProofFault)) →
    said ≡ option_map (λ p. run_fault (run_of f net p)) proving →
    said ≡ fault_behind (option_map (run_of f net) proving) []
said_is f net None said says = says
said_is f net (Some p) said says = says

-- where memory didn't want
pub unless_failed : (b : Bool) (s : ProofState) (lines : List TextLine) (answer : Answer) → b ≡ false →
    AnswersLines (proof_seen s.lines) (run_in s) s.lines.stopped lines answer → answers_by b s lines answer
unless_failed b s lines answer going says = subst (λ c. answers_by c s lines answer) (sym going) says

pub answers_going : (b : Bool) (s : ProofState) (lines : List TextLine) (answer : Answer) → b ≡ false →
    answers_by b s lines answer → AnswersLines (proof_seen s.lines) (run_in s) s.lines.stopped lines answer
answers_going b s lines answer going says = subst (λ c. answers_by c s lines answer) going says

-- an item that may come may be judged
lawful_by : (last first_id : ℕ) (body : Option ProofBody) (item : ProofItem) → MayCome last body item →
    IsItem (is_up_to last) (numbering_in first_id body) item
lawful_by last first_id None item may = absurd may
lawful_by last first_id (Some body) item may = may

module _ (f : Dqbf) (net : Netlist) (new : KeptProofLines) (p : CircuitProving) (has : HasNext f net new (Some p)) where
  pub lawful_next : (item : ProofItem) → new.item ≡ Some item →
      IsItem (is_proof_variable f net) (numbering_of has.old) item
  lawful_next item is =
      subst (λ last. IsItem (is_up_to last) (numbering_of has.old) item)
      (sym (same_variables has.old (proof_seen new) has.behind.text
      (step_of has.old (proof_seen new) has.behind.text has.behind.read)) ∙ has.lines.variables)
      (lawful_by has.old.last_variable has.old.first_id has.old.body item
      (subst (λ o. IfSome o (MayCome has.old.last_variable has.old.body)) is has.behind.may_come))

  pub next_may_come : (item : ProofItem) → new.item ≡ Some item → MayJudge f net p item
  next_may_come item is =
      record { at = numbering_of has.old; judging = has.judging; lawful = lawful_next item is }

  pub numbered_next : (item : Option ProofItem) → new.item ≡ item →
      numbering_of (proof_seen new) ≡ numbering_behind item (numbering_of has.old)
  numbered_next item is =
      numbering_step has.old (proof_seen new) has.behind.text
      (step_of has.old (proof_seen new) has.behind.text has.behind.read)
      ∙ ap (λ o. numbering_behind o (numbering_of has.old)) is
