-- What a line of a circuit's proof does, and what is judged of lines, line by line.
use Rattle.std.proofs.Common.{◌≡◌, ℕ, nat_lt, Bool, true, false, cond, List, ◌∷◌, Option, None, Some, Result, Ok, Err, refl, sym, ◌∙◌, ap, subst}
use Rattle.dq_text.specs.Line.{TextLine, line_tokens}
use Rattle.rup_core.specs.Items.{ProofItem}
use Rattle.rup_core.specs.Runs.{Run}
use Rattle.cert_text.specs.Header.{proof_header}
use Rattle.cert_text.specs.ItemLine.{item_line}
use Rattle.cert_text.specs.LineStop.{and_then}
use Rattle.cert_text.specs.Lines.{and_read, at_line}
use Rattle.cert_text.specs.Numbering.{Numbering, behind_item}
use Rattle.cert_text.specs.Variables.{is_up_to}
use Rattle.cert_text.specs.declared.circuit_proofs.Dqp.{Dqp}
use Rattle.cert_text.specs.declared.faults.CertFault.{CertFault}
use Rattle.cert_text.specs.declared.faults.CertRefusal.{CertRefusal}
use Rattle.cert_text.specs.declared.headers.ItemCount.{ItemCount}
use Rattle.cert_stream.specs.ProofLines.{BodyRead, ProofBody, ProofLines, behind_line, body_behind, in_front, line_read, lines_give, with_item_read, with_line, without_item}
use Rattle.cert_stream.specs.ProofInside.{runs_behind}
use Rattle.cert_stream.specs.ProofState.{fault_behind, judged, numbering_in, numbering_of}

-- what a line that was read leads to
pub record IsStep (r next : ProofLines) (text : List ℕ) : Type 0 where
  pub read : BodyRead
  pub is : line_read r.last_variable r.first_id r.body text ≡ Ok read
  pub next_is : next ≡ behind_line r read

step_by : (r next : ProofLines) (text : List ℕ) (line : Result BodyRead CertFault) →
    line_read r.last_variable r.first_id r.body text ≡ line →
    and_then (λ read. Ok (behind_line r read)) line ≡ Ok next → IsStep r next text
step_by r next text (Ok read) is read_is =
    let same : behind_line r read ≡ next = cc in record { read = read; is = is; next_is = sym same }
step_by r next text (Err name) is read_is = cc

pub step_of : (r next : ProofLines) (text : List ℕ) → with_line r text ≡ Ok next → IsStep r next text
step_of r next text read = step_by r next text (line_read r.last_variable r.first_id r.body text) refl read

abbrev pub numbering_behind : Option ProofItem → Numbering → Numbering
numbering_behind None n = n
numbering_behind (Some item) n = behind_item n item

abbrev Goes : ℕ → Option ProofBody → BodyRead → Result BodyRead CertFault → Type 0
Goes first_id body read line =
    line ≡ Ok read → read.body.numbering ≡ numbering_behind read.item (numbering_in first_id body)

by_header : (first_id : ℕ) (read : BodyRead) (h : Result ItemCount CertFault) →
    Goes first_id None read (and_then (λ count. Ok (without_item (body_behind first_id count))) h)
by_header first_id read (Ok count) is =
    let same : without_item (body_behind first_id count) ≡ read = cc in
    subst (λ (b : BodyRead). b.body.numbering ≡ numbering_behind b.item (numbering_in first_id None)) same refl
by_header first_id read (Err name) is = cc

by_item : (first_id : ℕ) (body : ProofBody) (read : BodyRead) (h : Result ProofItem CertFault) →
    Goes first_id (Some body) read (and_then (λ item. Ok (with_item_read body item)) h)
by_item first_id body read (Ok item) is =
    let same : with_item_read body item ≡ read = cc in
    subst (λ (b : BodyRead). b.body.numbering ≡ numbering_behind b.item (numbering_in first_id (Some body))) same refl
by_item first_id body read (Err name) is = cc

by_free : (first_id : ℕ) (body : ProofBody) (read : BodyRead) → Goes first_id (Some body) read (Ok (without_item body))
by_free first_id body read is =
    let same : without_item body ≡ read = cc in
    subst (λ (b : BodyRead). b.body.numbering ≡ numbering_behind b.item (numbering_in first_id (Some body))) same refl

by_test : {A : Type 0} (P : A → Type 0) (b : Bool) (x y : A) → P x → P y → P (cond b x y)
by_test P true x y here there = here
by_test P false x y here there = there

goes_on : (last first_id : ℕ) (body : Option ProofBody) (text : List ℕ) (read : BodyRead) →
    Goes first_id body read (line_read last first_id body text)
goes_on last first_id None text read = by_header first_id read (proof_header (line_tokens text))
goes_on last first_id (Some body) text read =
    by_test (Goes first_id (Some body) read) (nat_lt 0 body.items_left) _ _
    (by_item first_id body read (item_line body.version (is_up_to last) body.numbering (line_tokens text)))
    (by_free first_id body read)

-- the ids of the lines to come
pub numbering_step : (r next : ProofLines) (text : List ℕ) → IsStep r next text →
    numbering_of next ≡ numbering_behind next.item (numbering_of r)
numbering_step r next text step =
    subst (λ (n : ProofLines). numbering_of n ≡ numbering_behind n.item (numbering_of r)) (sym step.next_is)
    (goes_on r.last_variable r.first_id r.body text step.read step.is)

pub going : (r next : ProofLines) (text : List ℕ) → IsStep r next text → next.stopped ≡ r.stopped
going r next text step = ap (λ (n : ProofLines). n.stopped) step.next_is

pub same_variables : (r next : ProofLines) (text : List ℕ) → IsStep r next text →
    next.last_variable ≡ r.last_variable
same_variables r next text step = ap (λ (n : ProofLines). n.last_variable) step.next_is

pub same_first : (r next : ProofLines) (text : List ℕ) → IsStep r next text → next.first_id ≡ r.first_id
same_first r next text step = ap (λ (n : ProofLines). n.first_id) step.next_is

-- an item in front
fault_in_front : (run : Option Run) (item : ProofItem) (items : List ProofItem) →
    fault_behind run (item ∷ items) ≡ fault_behind (runs_behind (Some item) run) items
fault_in_front None item items = refl
fault_in_front (Some run) item items = refl

runs_kept : (run : Option Run) → run ≡ runs_behind None run
runs_kept None = refl
runs_kept (Some run) = refl

item_judged : (item : Option ProofItem) (run : Option Run) (read : Result Dqp CertRefusal) →
    and_read (in_front item read) (λ d. Ok (fault_behind run d.items))
    ≡ and_read read (λ d. Ok (fault_behind (runs_behind item run) d.items))
item_judged None run read = ap (λ o. and_read read (λ d. Ok (fault_behind o d.items))) (runs_kept run)
item_judged (Some item) run (Ok d) = ap Ok (fault_in_front run item d.items)
item_judged (Some item) run (Err fault) = refl

abbrev pub ReadsByLine : Type 0
ReadsByLine = (r : ProofLines) (line : TextLine) (lines : List TextLine) → line.number ≡ r.number →
    lines_give r (line ∷ lines)
    ≡ and_read (at_line line.number (with_line r line.text)) (λ next. in_front next.item (lines_give next lines))

-- one line, and then those behind it
pub judged_step : ReadsByLine → (r next : ProofLines) (run : Option Run) (line : TextLine) (lines : List TextLine) →
    line.number ≡ r.number → with_line r line.text ≡ Ok next →
    judged r run (line ∷ lines) ≡ judged next (runs_behind next.item run) lines
judged_step law r next run line lines numbered read =
    ap (λ l. and_read l (λ d. Ok (fault_behind run d.items)))
    (law r line lines numbered
    ∙ ap (λ w. and_read (at_line line.number w) (λ n. in_front n.item (lines_give n lines))) read)
    ∙ item_judged next.item run (lines_give next lines)
