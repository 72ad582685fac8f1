-- What the lines of a circuit's proof give, line by line.
use Rattle.std.proofs.Common.{◌≡◌, ℕ, zero, suc, ◌+◌, ◌-◌, nat_lt, true, cond, List, [], ◌∷◌, Option, None, Some, Result, Ok, Err, refl, sym, ◌∙◌, ap, arith}
use Rattle.std.proofs.lemmas.Bool.{lt-ltb}
use Rattle.dq_lits.specs.Formula.{Dqbf}
use Rattle.dq_text.specs.Line.{TextLine, line_tokens}
use Rattle.circuit_plain.specs.Netlist.{Netlist}
use Rattle.rup_core.specs.Items.{ProofItem}
use Rattle.cert_text.specs.CircuitProof.{read_proof}
use Rattle.cert_text.specs.Header.{proof_header}
use Rattle.cert_text.specs.ItemLine.{item_line, item_lines}
use Rattle.cert_text.specs.LineStop.{and_then}
use Rattle.cert_text.specs.Lines.{LinesRead, and_read, at_line, read_some, with_item}
use Rattle.cert_text.specs.Numbering.{Numbering, behind_item}
use Rattle.cert_text.specs.Variables.{is_up_to}
use Rattle.cert_text.specs.declared.circuit_proofs.Dqp.{Dqp}
use Rattle.cert_text.specs.declared.faults.CertFault.{CertFault}
use Rattle.cert_text.specs.declared.faults.CertRefusal.{CertRefusal}
use Rattle.cert_text.specs.declared.headers.ItemCount.{ItemCount}
use Rattle.cert_text.specs.declared.versions.Version.{Version}
use Rattle.cert_stream.specs.ProofLines.{BodyRead, ProofBody, ProofLines, behind_line, body_behind, body_gives, body_line, gives, in_front, line_read, lines_give, no_lines, with_item_read, with_line, without_item}

abbrev Reading : Type 0
Reading = Result Dqp CertRefusal

-- what a line that was read, and the lines behind it, give
abbrev then_gives : ℕ → List TextLine → ℕ → BodyRead → Reading
then_gives last lines number read = in_front read.item (body_gives last read.body lines number)

abbrev after : ℕ → ℕ → Result BodyRead CertFault → List TextLine → Reading
after last number read lines = and_read (at_line number read) (then_gives last lines (number + 1))

header_read : (last first_id : ℕ) (h : Result ItemCount CertFault) (lines : List TextLine) (number : ℕ) →
    and_read (at_line number h) (λ count. body_gives last (body_behind first_id count) lines (number + 1))
    ≡ after last number (and_then (λ count. Ok (without_item (body_behind first_id count))) h) lines
header_read last first_id (Ok count) lines number = refl
header_read last first_id (Err name) lines number = refl

item_in_front : (item : ProofItem) (r : Result (LinesRead ProofItem) CertRefusal) →
    and_read (and_read r (with_item item)) (λ items. Ok (record { items = items.items }))
    ≡ in_front (Some item) (and_read r (λ items. Ok (record { items = items.items })))
item_in_front item (Ok r) = refl
item_in_front item (Err fault) = refl

item_read : (last : ℕ) (body : ProofBody) (k : ℕ) (h : Result ProofItem CertFault) (lines : List TextLine)
    (number : ℕ) → k ≡ body.items_left - 1 →
    and_read (and_read (at_line number h) (λ item. and_read
    (read_some (item_lines body.version (is_up_to last)) (behind_item body.numbering item) k lines
    (number + 1)) (with_item item))) (λ items. Ok (record { items = items.items }))
    ≡ after last number (and_then (λ item. Ok (with_item_read body item)) h) lines
item_read last body k (Ok item) lines number left =
    item_in_front item (read_some (item_lines body.version (is_up_to last)) (behind_item body.numbering item) k lines
    (number + 1))
    ∙ ap (λ n. in_front (Some item) (body_gives last (record body {
      numbering = behind_item body.numbering item;
      items_left = n;
    }) lines (number + 1))) left
item_read last body k (Err name) lines number left = refl

some : (k : ℕ) → nat_lt 0 (suc k) ≡ true
some k = lt-ltb 0 (suc k) (omega arith)

-- a line behind the header
behind_header : (last : ℕ) (version : Version) (n : Numbering) (items_left : ℕ) (line : TextLine)
    (lines : List TextLine) (number : ℕ) →
    body_gives last (record { version = version; numbering = n; items_left = items_left }) (line ∷ lines) number
    ≡ after last line.number (body_line last
    (record { version = version; numbering = n; items_left = items_left }) line.text) lines
behind_header last version n (suc k) line lines number =
    let body : ProofBody = record { version = version; numbering = n; items_left = suc k } in
    item_read last body k (item_line version (is_up_to last) n (line_tokens line.text)) lines line.number
    (omega arith)
    ∙ ap (λ b. after last line.number (cond b (and_then (λ item. Ok (with_item_read body item))
    (item_line version (is_up_to last) n (line_tokens line.text))) (Ok (without_item body))) lines) (sym (some k))
behind_header last version n zero line lines number = refl

any_line : (last first_id : ℕ) (body : Option ProofBody) (line : TextLine) (lines : List TextLine) (number : ℕ) →
    gives last first_id body (line ∷ lines) number
    ≡ after last line.number (line_read last first_id body line.text) lines
any_line last first_id None line lines number =
    header_read last first_id (proof_header (line_tokens line.text)) lines line.number
any_line last first_id (Some body) line lines number =
    behind_header last body.version body.numbering body.items_left line lines number

read_on : (r : ProofLines) (line : TextLine) (lines : List TextLine) (read : Result BodyRead CertFault) →
    line.number ≡ r.number →
    after r.last_variable line.number read lines
    ≡ and_read (at_line line.number (and_then (λ b. Ok (behind_line r b)) read)) (λ next. in_front next.item
    (lines_give next lines))
read_on r line lines (Ok read) same =
    ap (λ n. in_front read.item (body_gives r.last_variable read.body lines (n + 1))) same
read_on r line lines (Err name) same = refl

-- a line is read, and then those behind it
pub one_by_one : (r : ProofLines) (line : TextLine) (lines : List TextLine) → line.number ≡ r.number →
    lines_give r (line ∷ lines)
    ≡ and_read (at_line line.number (with_line r line.text)) (λ next. in_front next.item (lines_give next lines))
one_by_one r line lines same =
    any_line r.last_variable r.first_id r.body line lines r.number
    ∙ read_on r line lines (line_read r.last_variable r.first_id r.body line.text) same

-- before the first line the lines give what is read of them
pub whole_proof : (f : Dqbf) (net : Netlist) (lines : List TextLine) (number : ℕ) →
    lines_give (no_lines f net number) lines ≡ read_proof f net lines number
whole_proof f net [] number = refl
whole_proof f net (line ∷ lines) number = refl
