-- A circuit's proof is read exactly where a text spells it.
use Rattle.std.proofs.Common.{◌≡◌, ℕ, ◌+◌, ◌≤◌, Bool, true, List, [], ◌∷◌, ◌++◌, length, Result, Ok, Err, IfOk, ◌∙◌, ap, arith, subst}
use Rattle.std.specs.List.{AllZip}
use Rattle.std.proofs.lemmas.Bool.{and_parts, leb-true}
use Rattle.std.proofs.lemmas.List.Elements.{All-from_recursion}
use Rattle.dq_lits.specs.Formula.{Dqbf}
use Rattle.dq_text.specs.Line.{TextLine, line_tokens, lines_from}
use Rattle.circuit_plain.specs.Netlist.{Netlist}
use Rattle.rup_core.specs.Items.{ProofItem}
use Rattle.cert_text.specs.CircuitProof.{is_proof_variable, first_proof_id, read_proof, circuit_proof_of}
use Rattle.cert_text.specs.Grammar.{Tokens, SpellsItem}
use Rattle.cert_text.specs.Header.{proof_header}
use Rattle.cert_text.specs.ItemLine.{item_lines}
use Rattle.cert_text.specs.Lines.{Format, IsReading, LinesRead, and_read, at_line, read_some}
use Rattle.cert_text.specs.Numbering.{Numbering, numbered_from}
use Rattle.cert_text.specs.ProofGrammar.{SpellsProofHeader, IsDqpOf, SpellsProof}
use Rattle.cert_text.specs.Variables.{is_up_to}
use Rattle.cert_text.specs.declared.circuit_proofs.Dqp.{Dqp}
use Rattle.cert_text.specs.declared.faults.CertFault.{CertFault}
use Rattle.cert_text.specs.declared.faults.CertRefusal.{CertRefusal}
use Rattle.cert_text.specs.declared.faults.CertStop.{CertStop}
use Rattle.cert_text.specs.declared.headers.ItemCount.{ItemCount}
use Rattle.cert_text.specs.declared.versions.Version.{Version}
use Rattle.cert_text.proofs.LineTokens.{by_tokens, same_tokens}
use Rattle.cert_text.proofs.Numberings.{IsNumbered, none_live}
use Rattle.cert_text.proofs.SpelledHeaders.{IsProofHeader, proof_header_taken, proof_header_spelled}
use Rattle.cert_text.proofs.SpelledLines.{AreItemLines, IsReadFrom, all_read, read_from_lines, items_taken, items_spelled}

pub variable_some : (last v : ℕ) → is_up_to last v ≡ true → 1 ≤ v
variable_some last v h = leb-true 1 v (and_parts _ _ h).0

abbrev proof_of : LinesRead ProofItem → Dqp
proof_of read = record { items = read.items }

-- the numbering begins with ids from 1 on
pub numbered_first : (first : ℕ) → 1 ≤ first → IsNumbered (numbered_from first)
numbered_first first some = record { next = some; live = none_live (λ id. 1 ≤ id) first }

module _ (f : Dqbf) (net : Netlist) where
  abbrev lines_of : Version → Format Numbering ProofItem
  lines_of version = item_lines version (is_proof_variable f net)

  abbrev from_first : Numbering
  from_first = numbered_from (first_proof_id f net)

lines_read : (f : Dqbf) (net : Netlist) (d : Dqp) (version : Version) (header : Tokens) (spelled free : List Tokens)
    (lines : List TextLine) (number : ℕ) →
    SpellsProofHeader header version (length d.items) → AllZip (SpellsItem version) spelled d.items → IsDqpOf f net d →
    by_tokens lines ≡ header ∷ (spelled ++ free) → read_proof f net lines number ≡ Ok d
lines_read f net d version header spelled free [] number head items allowed are = cc
lines_read f net d version header spelled free (line ∷ lines) number head items allowed are =
    let here : line_tokens line.text ≡ header = cc in
    let rest : by_tokens lines ≡ spelled ++ free = cc in
    let p : ℕ → Bool = is_proof_variable f net in
    let behind : LinesRead ProofItem → Result Dqp CertRefusal = λ read. Ok (proof_of read) in
    let next : ItemCount → Result Dqp CertRefusal = λ count. and_read
    (read_some (lines_of f net count.version) (from_first f net) count.items lines (line.number + 1)) behind in
    let read = all_read (lines_of f net version) d.items spelled free (from_first f net) lines (line.number + 1)
    (items_taken version p (λ v h. variable_some _ v h) (from_first f net) spelled d.items
    (numbered_first (first_proof_id f net) (omega arith)) items allowed.items) rest in
    ap (λ r. and_read (at_line line.number r) next) (ap proof_header here ∙ proof_header_taken header version
    (length d.items) head allowed.few_items)
    ∙ ap (λ r. and_read r behind) read.is
    ∙ ap (λ xs. Ok (record { items = xs })) read.items_are

pub spelled_is_read : (text : List ℕ) (first : ℕ) (f : Dqbf) (net : Netlist) (d : Dqp) → SpellsProof text f net d →
    circuit_proof_of f net text first ≡ Ok d
spelled_is_read text first f net d spelled =
    lines_read f net d spelled.version spelled.header spelled.item_lines spelled.free_lines
    (lines_from first text) first spelled.header_spelled
    spelled.items_spelled spelled.allowed (same_tokens first 1 text ∙ spelled.lines)

-- a proof's lines
record AreLines (f : Dqbf) (net : Netlist) (lines : List TextLine) (d : Dqp) : Type 0 where
  version : Version
  header : Tokens
  spelled : List Tokens
  free : List Tokens
  are : by_tokens lines ≡ header ∷ (spelled ++ free)
  head : SpellsProofHeader header version (length d.items)
  items : AllZip (SpellsItem version) spelled d.items
  allowed : IsDqpOf f net d

with_header : (f : Dqbf) (net : Netlist) (count : ItemCount) (line : TextLine) (lines : List TextLine)
    (read : LinesRead ProofItem) →
    IsProofHeader (line_tokens line.text) count →
    (b : IsReadFrom (lines_of f net count.version) (from_first f net) count.items lines read) →
    AreItemLines count.version (is_proof_variable f net) (from_first f net) b.spelled read.items →
    AreLines f net (line ∷ lines) (proof_of read)
with_header f net count line lines read h b s = search (arith, by_tokens, All-from_recursion)

by_items : (f : Dqbf) (net : Netlist) (count : ItemCount) (line : TextLine) (lines : List TextLine) (d : Dqp)
    (read : Result (LinesRead ProofItem) CertRefusal) →
    read_some (lines_of f net count.version) (from_first f net) count.items lines (line.number + 1) ≡ read →
    IsProofHeader (line_tokens line.text) count →
    and_read read (λ items. Ok (proof_of items)) ≡ Ok d → AreLines f net (line ∷ lines) d
by_items f net count line lines d (Err fault) is head h = cc
by_items f net count line lines d (Ok read) is head h =
    let same : proof_of read ≡ d = cc in
    let b = read_from_lines (lines_of f net count.version) count.items (from_first f net) lines
    (line.number + 1) read is in
    subst (AreLines f net (line ∷ lines)) same (with_header f net count line lines read head b
    (items_spelled count.version (is_proof_variable f net) (from_first f net) b.spelled read.items b.each))

by_header : (f : Dqbf) (net : Netlist) (line : TextLine) (lines : List TextLine) (d : Dqp)
    (count : Result ItemCount CertFault) →
    proof_header (line_tokens line.text) ≡ count →
    and_read (at_line line.number count) (λ n.
    and_read (read_some (lines_of f net n.version) (from_first f net) n.items lines (line.number + 1))
    (λ items. Ok (proof_of items))) ≡ Ok d →
    AreLines f net (line ∷ lines) d
by_header f net line lines d (Err name) is h = cc
by_header f net line lines d (Ok count) is h = search (arith, by_items, proof_header_spelled)

lines_spelled : (f : Dqbf) (net : Netlist) (lines : List TextLine) (number : ℕ) (d : Dqp) →
    read_proof f net lines number ≡ Ok d → AreLines f net lines d
lines_spelled f net [] number d h = cc
lines_spelled f net (line ∷ lines) number d h = search (arith, by_header)

pub read_is_spelled : (text : List ℕ) (first : ℕ) (f : Dqbf) (net : Netlist) (d : Dqp) →
    circuit_proof_of f net text first ≡ Ok d → SpellsProof text f net d
read_is_spelled text first f net d h =
    let l = lines_spelled f net (lines_from first text) first d h in
    record {
      version = l.version;
      header = l.header;
      item_lines = l.spelled;
      free_lines = l.free;
      lines = same_tokens 1 first text ∙ l.are;
      header_spelled = l.head;
      items_spelled = l.items;
      allowed = l.allowed;
    }

pub reading_allowed : (text : List ℕ) (first : ℕ) (f : Dqbf) (net : Netlist) (made : Result Dqp CertStop) →
    IsReading (circuit_proof_of f net text first) made →
    IfOk made (IsDqpOf f net)
reading_allowed text first f net (Ok d) read = (read_is_spelled text first f net d read).allowed
reading_allowed text first f net (Err stop) read = tt
