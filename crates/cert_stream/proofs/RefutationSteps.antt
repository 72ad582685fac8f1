-- What the lines of a refutation give, line by line.
use Rattle.std.proofs.Common.{◌≡◌, ℕ, zero, suc, ◌+◌, ◌-◌, nat_lt, Bool, true, false, cond, List, [], ◌∷◌, ◌++◌, Option, None, Some, Result, Ok, Err, refl, sym, ◌∙◌, ap, arith, append_assoc, if◌then◌else◌}
use Rattle.std.proofs.lemmas.Bool.{lt-ltb}
use Rattle.dq_lits.specs.Formula.{Dqbf}
use Rattle.dq_text.specs.BlankLine.{is_blank_line}
use Rattle.dq_text.specs.Line.{TextLine, line_tokens}
use Rattle.rup_core.specs.Items.{ProofItem}
use Rattle.cert_text.specs.Header.{header_of}
use Rattle.cert_text.specs.ItemLine.{item_line, item_lines}
use Rattle.cert_text.specs.Kind.{refusal}
use Rattle.cert_text.specs.LineStop.{and_then}
use Rattle.cert_text.specs.Lines.{LinesRead, and_read, at_line, read_some, with_item}
use Rattle.cert_text.specs.Numbering.{Numbering, behind_item}
use Rattle.cert_text.specs.Pairs.{is_pair_number}
use Rattle.cert_text.specs.RowLine.{row_line}
use Rattle.cert_text.specs.Scan.{blank_lines, read_body, row_lines}
use Rattle.cert_text.specs.declared.faults.CertFault.{CertFault}
use Rattle.cert_text.specs.declared.faults.CertFault.TheVariants.{BadLine}
use Rattle.cert_text.specs.declared.faults.CertRefusal.{CertRefusal}
use Rattle.cert_text.specs.declared.headers.RowsAndItems.{RowsAndItems}
use Rattle.cert_text.specs.declared.refutations.Dqr.{Dqr}
use Rattle.cert_text.specs.declared.versions.Version.{Version}
use Rattle.cert_stream.specs.RefutationLines.{BodyRead, RefutationBody, RefutationLines, behind_line, body_behind, body_gives, body_line, gives, in_front, line_read, lines_give, with_item_read, with_line, with_row, without_item}

abbrev Reading : Type 0
Reading = Result Dqr CertRefusal

-- what a line that was read, and the lines behind it, give
abbrev then_gives : Dqbf → List TextLine → ℕ → BodyRead → Reading
then_gives f lines number read = in_front read.item (body_gives f read.body lines number)

abbrev after : Dqbf → ℕ → Result BodyRead CertFault → List TextLine → Reading
after f number read lines = and_read (at_line number read) (then_gives f lines (number + 1))

header_read : (f : Dqbf) (h : Result RowsAndItems CertFault) (lines : List TextLine) (number : ℕ) →
    and_read (at_line number h) (λ counts. read_body f counts lines (number + 1))
    ≡ after f number (and_then (λ counts. Ok (without_item (body_behind f counts))) h) lines
header_read f (Ok counts) lines number = refl
header_read f (Err name) lines number = refl

-- what stands behind the rows
abbrev behind_rows : Dqbf → RefutationBody → LinesRead (List Bool) → Reading
behind_rows f body rows =
    and_read (read_some (item_lines body.version (is_pair_number f body.row_count)) body.numbering body.items_left
    rows.rest rows.number) (λ items. and_read (blank_lines items.rest)
    (λ _. Ok (record { rows = body.rows ++ rows.items; items = items.items })))

row_in_front : (f : Dqbf) (body : RefutationBody) (row : List Bool) (k : ℕ)
    (r : Result (LinesRead (List Bool)) CertRefusal) →
    and_read (and_read r (with_item row)) (behind_rows f body)
    ≡ and_read r (behind_rows f (record body { rows = body.rows ++ row ∷ []; rows_left = k }))
row_in_front f body row k (Ok r) =
    ap (λ rows. and_read (read_some (item_lines body.version (is_pair_number f body.row_count)) body.numbering
    body.items_left r.rest r.number) (λ items. and_read (blank_lines items.rest)
    (λ _. Ok (record { rows = rows; items = items.items })))) (sym (append_assoc body.rows (row ∷ []) r.items))
row_in_front f body row k (Err fault) = refl

row_read : (f : Dqbf) (body : RefutationBody) (k : ℕ) (h : Result (List Bool) CertFault) (lines : List TextLine)
    (number : ℕ) → k ≡ body.rows_left - 1 →
    and_read (and_read (at_line number h) (λ row. and_read (read_some (row_lines f.universals) tt k lines (number + 1))
    (with_item row))) (behind_rows f body)
    ≡ after f number (and_then (λ row. Ok (with_row body row)) h) lines
row_read f body k (Ok row) lines number left =
    row_in_front f body row k (read_some (row_lines f.universals) tt k lines (number + 1))
    ∙ ap (λ n. body_gives f (record body { rows = body.rows ++ row ∷ []; rows_left = n }) lines (number + 1)) left
row_read f body k (Err name) lines number left = refl

abbrev at_end : List (List Bool) → LinesRead ProofItem → Reading
at_end rows items = and_read (blank_lines items.rest) (λ _. Ok (record { rows = rows; items = items.items }))

end_in_front : (rows : List (List Bool)) (item : ProofItem) (items : List ProofItem)
    (b : Result (Unit {0}) CertRefusal) →
    and_read b (λ _. Ok (record { rows = rows; items = item ∷ items }))
    ≡ in_front (Some item) (and_read b (λ _. Ok (record { rows = rows; items = items })))
end_in_front rows item items (Ok _) = refl
end_in_front rows item items (Err fault) = refl

item_in_front : (rows : List (List Bool)) (item : ProofItem) (r : Result (LinesRead ProofItem) CertRefusal) →
    and_read (and_read r (with_item item)) (at_end rows) ≡ in_front (Some item) (and_read r (at_end rows))
item_in_front rows item (Ok r) = end_in_front rows item r.items (blank_lines r.rest)
item_in_front rows item (Err fault) = refl

item_read : (f : Dqbf) (body : RefutationBody) (k : ℕ) (h : Result ProofItem CertFault) (lines : List TextLine)
    (number : ℕ) → k ≡ body.items_left - 1 → body.rows_left ≡ 0 →
    and_read (and_read (at_line number h) (λ item. and_read
    (read_some (item_lines body.version (is_pair_number f body.row_count)) (behind_item body.numbering item) k lines
    (number + 1)) (with_item item))) (at_end (body.rows ++ []))
    ≡ after f number (and_then (λ item. Ok (with_item_read body item)) h) lines
item_read f body k (Ok item) lines number left none =
    item_in_front (body.rows ++ []) item
    (read_some (item_lines body.version (is_pair_number f body.row_count)) (behind_item body.numbering item) k lines
    (number + 1))
    ∙ ap (λ n. in_front (Some item) (and_read
    (read_some (item_lines body.version (is_pair_number f body.row_count)) (behind_item body.numbering item) n lines
    (number + 1)) (at_end (body.rows ++ [])))) left
    ∙ ap (λ n. in_front (Some item) (body_gives f (record body {
      rows_left = n;
      numbering = behind_item body.numbering item;
      items_left = body.items_left - 1;
    }) lines (number + 1))) (sym none)
item_read f body k (Err name) lines number left none = refl

blank_read : (f : Dqbf) (body : RefutationBody) (b : Bool) (lines : List TextLine) (number : ℕ) →
    body.items_left ≡ 0 → body.rows_left ≡ 0 →
    and_read (cond b (blank_lines lines) (Err (refusal number BadLine)))
    (λ _. Ok (record { rows = body.rows ++ []; items = [] }))
    ≡ after f number (cond b (Ok (without_item body)) (Err BadLine)) lines
blank_read f body true lines number no_items no_rows =
    ap (λ n. behind_rows f (record body { items_left = n }) (record { items = []; rest = lines; number = number + 1 }))
    (sym no_items)
    ∙ ap (λ n. body_gives f (record body { rows_left = n }) lines (number + 1)) (sym no_rows)
blank_read f body false lines number no_items no_rows = refl

abbrev body_with : Version → ℕ → List (List Bool) → Numbering → ℕ → ℕ → RefutationBody
body_with version count rows n rows_left items_left =
    record {
      version = version;
      row_count = count;
      rows = rows;
      rows_left = rows_left;
      numbering = n;
      items_left = items_left;
    }

some : (k : ℕ) → nat_lt 0 (suc k) ≡ true
some k = lt-ltb 0 (suc k) (omega arith)

-- a line behind the header
behind_header : (f : Dqbf) (version : Version) (count : ℕ) (rows : List (List Bool)) (n : Numbering)
    (rows_left items_left : ℕ)
    (line : TextLine) (lines : List TextLine) (number : ℕ) →
    body_gives f (body_with version count rows n rows_left items_left) (line ∷ lines) number
    ≡ after f line.number (body_line f (body_with version count rows n rows_left items_left) line.text) lines
behind_header f version count rows n (suc k) i line lines number =
    let body = body_with version count rows n (suc k) i in
    row_read f body k (row_line f.universals (line_tokens line.text)) lines line.number (omega arith)
    ∙ ap (λ b. after f line.number (cond b (and_then (λ row. Ok (with_row body row)) (row_line f.universals
    (line_tokens line.text)))
    (if nat_lt 0 i then and_then (λ item. Ok (with_item_read body item))
    (item_line version (is_pair_number f count) n (line_tokens line.text)) else
    if is_blank_line line.text then Ok (without_item body) else Err BadLine)) lines) (sym (some k))
behind_header f version count rows n zero (suc k) line lines number =
    let body = body_with version count rows n zero (suc k) in
    item_read f body k (item_line version (is_pair_number f count) n (line_tokens line.text)) lines line.number
    (omega arith) refl
    ∙ ap (λ b. after f line.number (cond b (and_then (λ item. Ok (with_item_read body item))
    (item_line version (is_pair_number f count) n (line_tokens line.text)))
    (if is_blank_line line.text then Ok (without_item body) else Err BadLine)) lines) (sym (some k))
behind_header f version count rows n zero zero line lines number =
    blank_read f (body_with version count rows n zero zero) (is_blank_line line.text) lines line.number refl refl

any_line : (f : Dqbf) (body : Option RefutationBody) (line : TextLine) (lines : List TextLine) (number : ℕ) →
    gives f body (line ∷ lines) number ≡ after f line.number (line_read f body line.text) lines
any_line f None line lines number = header_read f (header_of (line_tokens line.text)) lines line.number
any_line f (Some body) line lines number =
    behind_header f body.version body.row_count body.rows body.numbering body.rows_left body.items_left line lines
    number

read_on : (r : RefutationLines) (line : TextLine) (lines : List TextLine) (read : Result BodyRead CertFault) →
    line.number ≡ r.number →
    after r.formula line.number read lines
    ≡ and_read (at_line line.number (and_then (λ b. Ok (behind_line r b)) read)) (λ next. in_front next.item
    (lines_give next lines))
read_on r line lines (Ok read) same =
    ap (λ n. in_front read.item (body_gives r.formula read.body lines (n + 1))) same
read_on r line lines (Err name) same = refl

-- a line is read, and then those behind it
pub one_by_one : (r : RefutationLines) (line : TextLine) (lines : List TextLine) → line.number ≡ r.number →
    lines_give r (line ∷ lines)
    ≡ and_read (at_line line.number (with_line r line.text)) (λ next. in_front next.item (lines_give next lines))
one_by_one r line lines same =
    any_line r.formula r.body line lines r.number
    ∙ read_on r line lines (line_read r.formula r.body line.text) same
