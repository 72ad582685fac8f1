-- A refutation that is read line by line: what a line does, and what the lines to come give. The
-- rows are kept, the items of the proof aren't.
use Rattle.std.specs.Prelude.{◌≡◌, ℕ, ◌+◌, ◌-◌, ◌≤◌, nat_lt, Bool, List, [], ◌∷◌, ◌++◌, length, All, Option, None, Some, Result, Ok, Err, if◌then◌else◌}
use Rattle.dq_lits.specs.Formula.{Dqbf}
use Rattle.dq_text.specs.BlankLine.{is_blank_line}
use Rattle.dq_text.specs.Line.{TextLine, line_tokens}
use Rattle.rup_core.specs.Items.{ProofItem}
use Rattle.cert_text.specs.Grammar.{IsItem}
use Rattle.cert_text.specs.Header.{header_of, max_count}
use Rattle.cert_text.specs.ItemLine.{item_line, item_lines}
use Rattle.cert_text.specs.LineStop.{and_then}
use Rattle.cert_text.specs.Lines.{and_read, read_some}
use Rattle.cert_text.specs.Numbering.{Numbering, behind_item, numbered_from}
use Rattle.cert_text.specs.Pairs.{is_pair_number}
use Rattle.cert_text.specs.RowLine.{row_line}
use Rattle.cert_text.specs.Scan.{blank_lines, first_id, read_lines, row_lines}
use Rattle.cert_text.specs.declared.faults.CertFault.{CertFault}
use Rattle.cert_text.specs.declared.faults.CertFault.TheVariants.{BadLine}
use Rattle.cert_text.specs.declared.faults.CertRefusal.{CertRefusal}
use Rattle.cert_text.specs.declared.faults.CertStop.{CertStop}
use Rattle.cert_text.specs.declared.headers.RowsAndItems.{RowsAndItems}
use Rattle.cert_text.specs.declared.refutations.Dqr.{Dqr}
use Rattle.cert_text.specs.declared.versions.Version.{Version}

-- what was read behind the header
pub record RefutationBody : Type 0 where
  pub version : Version
  -- how many rows the header announces
  pub row_count : ℕ
  pub rows : List (List Bool)
  pub rows_left : ℕ
  -- the ids of the proof's lines so far
  pub numbering : Numbering
  pub items_left : ℕ

-- what a reader knows
pub record RefutationLines : Type 0 where
  pub formula : Dqbf
  -- the number of the next line
  pub number : ℕ
  -- none before the header
  pub body : Option RefutationBody
  -- what the last line was, if it is one of the proof's
  pub item : Option ProofItem
  -- why nothing more is read
  pub stopped : Option CertStop

-- before the first line
abbrev pub no_lines : Dqbf → ℕ → RefutationLines
no_lines f first =
    record { formula = f; number = first; body = None; item = None; stopped = None }

-- behind the header
abbrev pub body_behind : Dqbf → RowsAndItems → RefutationBody
body_behind f counts =
    record {
      version = counts.version;
      row_count = counts.rows;
      rows = [];
      rows_left = counts.rows;
      numbering = numbered_from (first_id f counts.rows);
      items_left = counts.items;
    }

-- what a line leads to, and its item
pub record BodyRead : Type 0 where
  pub body : RefutationBody
  pub item : Option ProofItem

abbrev pub without_item : RefutationBody → BodyRead
without_item body = record { body = body; item = None }

abbrev pub with_row : RefutationBody → List Bool → BodyRead
with_row body row =
    without_item (record body { rows = body.rows ++ row ∷ []; rows_left = body.rows_left - 1 })

abbrev pub with_item_read : RefutationBody → ProofItem → BodyRead
with_item_read body item =
    record {
      body =
          record body {
            numbering = behind_item body.numbering item;
            items_left = body.items_left - 1;
          };
      item = Some item;
    }

-- a line behind the header: of a row, of the proof, or blank
abbrev pub body_line : Dqbf → RefutationBody → List ℕ → Result BodyRead CertFault
body_line f body text =
    if nat_lt 0 body.rows_left
    then and_then (λ row. Ok (with_row body row)) (row_line f.universals (line_tokens text)) else
    if nat_lt 0 body.items_left
    then and_then (λ item. Ok (with_item_read body item))
    (item_line body.version (is_pair_number f body.row_count) body.numbering (line_tokens text)) else
    if is_blank_line text then Ok (without_item body) else Err BadLine

-- any line
abbrev pub line_read : Dqbf → Option RefutationBody → List ℕ → Result BodyRead CertFault
line_read f None text =
    and_then (λ counts. Ok (without_item (body_behind f counts))) (header_of (line_tokens text))
line_read f (Some body) text = body_line f body text

abbrev pub behind_line : RefutationLines → BodyRead → RefutationLines
behind_line r read =
    record r { number = r.number + 1; body = Some read.body; item = read.item }

-- what a line makes of a reader
abbrev pub with_line : RefutationLines → List ℕ → Result RefutationLines CertFault
with_line r text = and_then (λ read. Ok (behind_line r read)) (line_read r.formula r.body text)

-- all that is kept behind a stop
abbrev pub with_stop : RefutationLines → CertStop → RefutationLines
with_stop r stop = record r { body = None; item = None; stopped = Some stop }

-- the rows, and the items to come, where these are the lines to come
abbrev pub body_gives : Dqbf → RefutationBody → List TextLine → ℕ → Result Dqr CertRefusal
body_gives f body lines number =
    and_read (read_some (row_lines f.universals) tt body.rows_left lines number) (λ rows.
    and_read
    (read_some (item_lines body.version (is_pair_number f body.row_count)) body.numbering
    body.items_left rows.rest rows.number) (λ items.
    and_read (blank_lines items.rest)
    (λ _. Ok (record { rows = body.rows ++ rows.items; items = items.items }))))

abbrev pub gives : Dqbf → Option RefutationBody → List TextLine → ℕ → Result Dqr CertRefusal
gives f None lines number = read_lines f lines number
gives f (Some body) lines number = body_gives f body lines number

abbrev pub lines_give : RefutationLines → List TextLine → Result Dqr CertRefusal
lines_give r lines = gives r.formula r.body lines r.number

-- an item in front of those to come
abbrev pub in_front : Option ProofItem → Result Dqr CertRefusal → Result Dqr CertRefusal
in_front None read = read
in_front (Some item) read = and_read read (λ d. Ok (record d { items = item ∷ d.items }))

abbrev pub rows_of : Result Dqr CertRefusal → Result (List (List Bool)) CertRefusal
rows_of read = and_read read (λ d. Ok d.rows)

abbrev pub rows_so_far : Option RefutationBody → List (List Bool)
rows_so_far None = []
rows_so_far (Some body) = body.rows

-- what holds of what was read for a formula
pub record IsBody (f : Dqbf) (body : RefutationBody) : Type 0 where
  pub few : body.row_count ≤ max_count
  pub counted : length body.rows + body.rows_left ≡ body.row_count
  pub whole : All (λ row. length row ≡ length f.universals) body.rows
  pub numbered : first_id f body.row_count ≤ body.numbering.next

-- an item behind what was read: all rows are there, and it may stand where it does
pub record IsNextItem (f : Dqbf) (body : RefutationBody) (item : ProofItem) : Type 0 where
  pub rows : body.rows_left ≡ 0
  pub lawful : IsItem (is_pair_number f body.row_count) body.numbering item

abbrev pub MayCome : Dqbf → Option RefutationBody → ProofItem → Type 0
MayCome f None item = ⊥
MayCome f (Some body) item = IsNextItem f body item
