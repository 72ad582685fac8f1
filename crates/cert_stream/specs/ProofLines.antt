-- A circuit's proof that is read line by line: what a line does, and what the lines to come give.
-- The items aren't kept.
use Rattle.std.specs.Prelude.{◌≡◌, ℕ, ◌+◌, ◌-◌, ◌≤◌, nat_lt, List, [], ◌∷◌, length, Option, None, Some, Result, Ok, Err, if◌then◌else◌}
use Rattle.dq_lits.specs.Formula.{Dqbf}
use Rattle.dq_text.specs.Line.{TextLine, line_tokens}
use Rattle.circuit_plain.specs.Netlist.{Netlist}
use Rattle.rup_core.specs.Items.{ProofItem}
use Rattle.cert_text.specs.CircuitProof.{first_proof_id}
use Rattle.cert_text.specs.Grammar.{IsItem}
use Rattle.cert_text.specs.Header.{proof_header}
use Rattle.cert_text.specs.ItemLine.{item_line, item_lines}
use Rattle.cert_text.specs.Kind.{refusal}
use Rattle.cert_text.specs.LineStop.{and_then}
use Rattle.cert_text.specs.Lines.{and_read, at_line, read_some}
use Rattle.cert_text.specs.Numbering.{Numbering, behind_item, numbered_from}
use Rattle.cert_text.specs.Variables.{is_up_to}
use Rattle.cert_text.specs.declared.circuit_proofs.Dqp.{Dqp}
use Rattle.cert_text.specs.declared.faults.CertFault.{CertFault}
use Rattle.cert_text.specs.declared.faults.CertFault.TheVariants.{BadHeader}
use Rattle.cert_text.specs.declared.faults.CertRefusal.{CertRefusal}
use Rattle.cert_text.specs.declared.faults.CertStop.{CertStop}
use Rattle.cert_text.specs.declared.headers.ItemCount.{ItemCount}
use Rattle.cert_text.specs.declared.versions.Version.{Version}

-- what was read behind the header
pub record ProofBody : Type 0 where
  pub version : Version
  -- the ids of the lines so far
  pub numbering : Numbering
  pub items_left : ℕ

-- what a reader knows
pub record ProofLines : Type 0 where
  -- the variables are the numbers up to this one
  pub last_variable : ℕ
  -- the id of the first line
  pub first_id : ℕ
  -- the number of the next line
  pub number : ℕ
  -- none before the header
  pub body : Option ProofBody
  -- what the last line was, if it is one of the proof's
  pub item : Option ProofItem
  -- why nothing more is read
  pub stopped : Option CertStop

-- before the first line
abbrev pub no_lines : Dqbf → Netlist → ℕ → ProofLines
no_lines f net first =
    record {
      last_variable = net.max_var + length f.matrix;
      first_id = first_proof_id f net;
      number = first;
      body = None;
      item = None;
      stopped = None;
    }

-- behind the header
abbrev pub body_behind : ℕ → ItemCount → ProofBody
body_behind first_id count =
    record {
      version = count.version;
      numbering = numbered_from first_id;
      items_left = count.items;
    }

-- what a line leads to, and its item
pub record BodyRead : Type 0 where
  pub body : ProofBody
  pub item : Option ProofItem

abbrev pub without_item : ProofBody → BodyRead
without_item body = record { body = body; item = None }

abbrev pub with_item_read : ProofBody → ProofItem → BodyRead
with_item_read body item =
    record {
      body =
          record body {
            numbering = behind_item body.numbering item;
            items_left = body.items_left - 1;
          };
      item = Some item;
    }

-- a line behind the header: of the proof, or free text
abbrev pub body_line : ℕ → ProofBody → List ℕ → Result BodyRead CertFault
body_line last body text =
    if nat_lt 0 body.items_left
    then and_then (λ item. Ok (with_item_read body item))
    (item_line body.version (is_up_to last) body.numbering (line_tokens text))
    else Ok (without_item body)

-- any line
abbrev pub line_read : ℕ → ℕ → Option ProofBody → List ℕ → Result BodyRead CertFault
line_read last first_id None text =
    and_then (λ count. Ok (without_item (body_behind first_id count)))
    (proof_header (line_tokens text))
line_read last first_id (Some body) text = body_line last body text

abbrev pub behind_line : ProofLines → BodyRead → ProofLines
behind_line r read =
    record r { number = r.number + 1; body = Some read.body; item = read.item }

-- what a line makes of a reader
abbrev pub with_line : ProofLines → List ℕ → Result ProofLines CertFault
with_line r text =
    and_then (λ read. Ok (behind_line r read)) (line_read r.last_variable r.first_id r.body text)

-- all that is kept behind a stop
abbrev pub with_stop : ProofLines → CertStop → ProofLines
with_stop r stop = record r { body = None; item = None; stopped = Some stop }

-- the items to come, where these are the lines to come
abbrev pub body_gives : ℕ → ProofBody → List TextLine → ℕ → Result Dqp CertRefusal
body_gives last body lines number =
    and_read
    (read_some (item_lines body.version (is_up_to last)) body.numbering body.items_left lines number)
    (λ items. Ok (record { items = items.items }))

abbrev pub header_gives : ℕ → ℕ → List TextLine → ℕ → Result Dqp CertRefusal
header_gives last first_id [] number = Err (refusal number BadHeader)
header_gives last first_id (line ∷ lines) number =
    and_read (at_line line.number (proof_header (line_tokens line.text)))
    (λ count. body_gives last (body_behind first_id count) lines (line.number + 1))

abbrev pub gives : ℕ → ℕ → Option ProofBody → List TextLine → ℕ → Result Dqp CertRefusal
gives last first_id None lines number = header_gives last first_id lines number
gives last first_id (Some body) lines number = body_gives last body lines number

abbrev pub lines_give : ProofLines → List TextLine → Result Dqp CertRefusal
lines_give r lines = gives r.last_variable r.first_id r.body lines r.number

-- an item in front of those to come
abbrev pub in_front : Option ProofItem → Result Dqp CertRefusal → Result Dqp CertRefusal
in_front None read = read
in_front (Some item) read = and_read read (λ d. Ok (record { items = item ∷ d.items }))

-- that all came
abbrev pub whole_of : Result Dqp CertRefusal → Result (Unit {0}) CertRefusal
whole_of read = and_read read (λ _. Ok tt)

-- what was read behind the header has ids from the first line's on
abbrev pub IsBody : ℕ → ProofBody → Type 0
IsBody first_id body = first_id ≤ body.numbering.next

-- what follows is free text
abbrev pub HaveAllCome : Option ProofBody → Type 0
HaveAllCome None = ⊥
HaveAllCome (Some body) = body.items_left ≡ 0

-- an item may stand behind what was read
abbrev pub MayCome : ℕ → Option ProofBody → ProofItem → Type 0
MayCome last None item = ⊥
MayCome last (Some body) item = IsItem (is_up_to last) body.numbering item
