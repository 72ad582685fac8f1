-- A refutation is read exactly where a text spells it.
use Rattle.std.proofs.Common.{◌≡◌, ℕ, zero, suc, ◌+◌, Bool, cond, List, [], ◌∷◌, ◌++◌, length, replicate, Result, Ok, Err, IfOk, refl, sym, ◌∙◌, ap, ap₂, arith, subst}
use Rattle.std.specs.List.{AllByRecursion, AllZip}
use Rattle.std.proofs.lemmas.List.Elements.{All-from_recursion, recursion_from_All}
use Rattle.dq_lits.specs.Formula.{Dqbf}
use Rattle.dq_formula.specs.Prefix.{IsLawful}
use Rattle.dq_text.specs.Line.{TextLine, line_tokens, lines_from}
use Rattle.cert_text.specs.Grammar.{Tokens, SpellsHeader, SpellsRow, SpellsItem, AreItems, IsDqrOf, SpellsRefutation}
use Rattle.cert_text.specs.Header.{header_of}
use Rattle.cert_text.specs.ItemLine.{item_lines}
use Rattle.cert_text.specs.Kind.{refusal}
use Rattle.cert_text.specs.Lines.{Format, IsReading, LinesRead, and_read, at_line, read_some}
use Rattle.cert_text.specs.Numbering.{Numbering, numbered_from}
use Rattle.cert_text.specs.Pairs.{is_pair_number}
use Rattle.rup_core.specs.Items.{ProofItem}
use Rattle.dq_text.specs.BlankLine.{has_no_token}
use Rattle.cert_text.specs.Scan.{first_id, blank_lines, read_body, read_lines, refutation_of, row_lines}
use Rattle.cert_text.specs.declared.faults.CertFault.{CertFault}
use Rattle.cert_text.specs.declared.faults.CertFault.TheVariants.{BadLine}
use Rattle.cert_text.specs.declared.faults.CertRefusal.{CertRefusal}
use Rattle.cert_text.specs.declared.faults.CertStop.{CertStop}
use Rattle.cert_text.specs.declared.headers.RowsAndItems.{RowsAndItems}
use Rattle.cert_text.specs.declared.refutations.Dqr.{Dqr}
use Rattle.cert_text.specs.declared.versions.Version.{Version}
use Rattle.cert_text.proofs.SpelledHeaders.{IsHeader, header_taken, header_spelled}
use Rattle.cert_text.proofs.LineTokens.{by_tokens, same_tokens}
use Rattle.cert_text.proofs.SpelledLines.{AreRows, AreItemLines, IsReadFrom, all_read, read_from_lines, rows_taken, rows_spelled, items_taken, items_spelled}
use Rattle.cert_text.proofs.SpelledProofs.{numbered_first}
use Rattle.cert_text.proofs.Parts.{pair_positive, universals_positive}

-- lines of blanks
pub blanks_read : (n : ℕ) (lines : List TextLine) → by_tokens lines ≡ replicate n [] → blank_lines lines ≡ Ok tt
blanks_read n [] are = refl
blanks_read zero (line ∷ lines) are = cc
blanks_read (suc n) (line ∷ lines) are = search (arith, by_tokens, (blanks_read n lines))

pub record AreBlank (lines : List TextLine) : Type 0 where
  pub blanks : ℕ
  pub are : by_tokens lines ≡ replicate blanks []

one_blank : (line : TextLine) (lines : List TextLine) (tokens : Tokens) → line_tokens line.text ≡ tokens →
    (blank_lines lines ≡ Ok tt → AreBlank lines) →
    cond (has_no_token tokens) (blank_lines lines) (Err (refusal line.number BadLine)) ≡ Ok tt → AreBlank (line ∷ lines)
one_blank line lines [] is others h =
    let rest = others h in
    record { blanks = suc rest.blanks; are = ap₂ (λ t ts. t ∷ ts) is rest.are }
one_blank line lines (t ∷ ts) is others h = cc

pub blanks_spelled : (lines : List TextLine) → blank_lines lines ≡ Ok tt → AreBlank lines
blanks_spelled [] h = record { blanks = 0; are = refl }
blanks_spelled (line ∷ lines) h = one_blank line lines (line_tokens line.text) refl (blanks_spelled lines) h

abbrev Rows : Type 0
Rows = LinesRead (List Bool)

abbrev Items : Type 0
Items = LinesRead ProofItem

abbrev refutation : List (List Bool) → List ProofItem → Dqr
refutation rows items = record { rows = rows; items = items }

module _ (f : Dqbf) (c : RowsAndItems) where
  abbrev is_number : ℕ → Bool
  is_number = is_pair_number f c.rows

  abbrev lines_of : Format Numbering ProofItem
  lines_of = item_lines c.version is_number

  abbrev from_first : Numbering
  from_first = numbered_from (first_id f c.rows)

  -- what is read behind the items, and behind the rows
  abbrev behind_items : List (List Bool) → Items → Result Dqr CertRefusal
  behind_items rows items = and_read (blank_lines items.rest) (λ _. Ok (refutation rows items.items))

  abbrev behind_rows : Rows → Result Dqr CertRefusal
  behind_rows rows = and_read (read_some lines_of from_first c.items rows.rest rows.number) (behind_items rows.items)

  items_read : (rows : Rows) (items : List ProofItem) (spelled : List Tokens) (n : ℕ) → length items ≡ c.items →
      AllZip (SpellsItem c.version) spelled items →
      AreItems is_number from_first items → by_tokens rows.rest ≡ spelled ++ replicate n [] →
      behind_rows rows ≡ Ok (refutation rows.items items)
  items_read rows items spelled n counted each lawful are =
      let read = all_read lines_of items spelled (replicate n []) from_first rows.rest rows.number
      (items_taken c.version is_number (λ v. pair_positive f c.rows v) from_first spelled items
      (numbered_first (first_id f c.rows) (omega arith)) each lawful) are in
      ap (λ k. and_read (read_some lines_of from_first k rows.rest rows.number) (behind_items rows.items)) (sym counted)
      ∙ ap (λ r. and_read r (behind_items rows.items)) read.is
      ∙ ap (λ r. and_read r (λ _. Ok (refutation rows.items read.found.items)))
      (blanks_read n read.found.rest read.behind_are)
      ∙ ap (λ xs. Ok (refutation rows.items xs)) read.items_are

  body_read : (rows : List (List Bool)) (items : List ProofItem) (spelled_rows spelled_items : List Tokens) (n : ℕ)
      (lines : List TextLine) (number : ℕ) → IsLawful f →
      length rows ≡ c.rows → length items ≡ c.items → AllZip (SpellsRow f.universals) spelled_rows rows →
      AllByRecursion (λ row. length row ≡ length f.universals) rows →
      AllZip (SpellsItem c.version) spelled_items items → AreItems is_number from_first items →
      by_tokens lines ≡ spelled_rows ++ (spelled_items ++ replicate n []) →
      read_body f c lines number ≡ Ok (refutation rows items)
  body_read rows items spelled_rows spelled_items n lines number lawful counted_rows counted_items each_row whole
      each_item lawful_items are =
      let read = all_read (row_lines f.universals) rows spelled_rows (spelled_items ++ replicate n []) tt lines number
      (rows_taken f.universals spelled_rows rows (universals_positive f lawful) each_row whole) are in
      ap (λ k. and_read (read_some (row_lines f.universals) tt k lines number) behind_rows) (sym counted_rows)
      ∙ ap (λ r. and_read r behind_rows) read.is
      ∙ items_read read.found items spelled_items n counted_items each_item lawful_items read.behind_are
      ∙ ap (λ xs. Ok (refutation xs items)) read.items_are

lines_read : (f : Dqbf) (d : Dqr) (version : Version) (header : Tokens) (spelled_rows spelled_items : List Tokens)
    (n : ℕ) (lines : List TextLine) (number : ℕ) → IsLawful f →
    SpellsHeader header version (length d.rows) (length d.items) → AllZip (SpellsRow f.universals) spelled_rows d.rows →
    AllZip (SpellsItem version) spelled_items d.items → IsDqrOf f d →
    by_tokens lines ≡ header ∷ (spelled_rows ++ (spelled_items ++ replicate n [])) → read_lines f lines number ≡ Ok d
lines_read f d version header spelled_rows spelled_items n [] number lawful head rows items allowed are = cc
lines_read f d version header spelled_rows spelled_items n (line ∷ lines) number lawful head rows items allowed are =
    let here : line_tokens line.text ≡ header = cc in
    let rest : by_tokens lines ≡ spelled_rows ++ (spelled_items ++ replicate n []) = cc in
    let c : RowsAndItems = record { version = version; rows = length d.rows; items = length d.items } in
    let next : RowsAndItems → Result Dqr CertRefusal = λ counts. read_body f counts lines (line.number + 1) in
    ap (λ r. and_read (at_line line.number r) next) (ap header_of here ∙ header_taken header version (length d.rows)
    (length d.items) head allowed.few_rows allowed.few_items)
    ∙ body_read f c d.rows d.items spelled_rows spelled_items n lines (line.number + 1) lawful refl refl rows
    (recursion_from_All (λ row. length row ≡ length f.universals) d.rows allowed.whole) items allowed.items rest

pub spelled_is_read : (text : List ℕ) (first : ℕ) (f : Dqbf) (d : Dqr) → IsLawful f → SpellsRefutation text f d →
    refutation_of f text first ≡ Ok d
spelled_is_read text first f d lawful spelled =
    lines_read f d spelled.version spelled.header spelled.row_lines spelled.item_lines spelled.blank_lines
    (lines_from first text) first lawful
    spelled.header_spelled spelled.rows_spelled spelled.items_spelled spelled.allowed
    (same_tokens first 1 text ∙ spelled.lines)

-- row lines, item lines, and then lines of blanks
record AreBodyLines (f : Dqbf) (c : RowsAndItems) (lines : List TextLine) (d : Dqr) : Type 0 where
  spelled_rows : List Tokens
  spelled_items : List Tokens
  blanks : ℕ
  are : by_tokens lines ≡ spelled_rows ++ (spelled_items ++ replicate blanks [])
  counted_rows : length d.rows ≡ c.rows
  counted_items : length d.items ≡ c.items
  rows : AreRows f.universals spelled_rows d.rows
  items : AreItemLines c.version (is_number f c) (from_first f c) spelled_items d.items

body_of : (f : Dqbf) (c : RowsAndItems) (lines : List TextLine) (rows : Rows) (items : Items) →
    (r : IsReadFrom (row_lines f.universals) tt c.rows lines rows) → AreRows f.universals r.spelled rows.items →
    (s : IsReadFrom (lines_of f c) (from_first f c) c.items rows.rest items) →
    AreItemLines c.version (is_number f c) (from_first f c) s.spelled items.items →
    AreBlank items.rest → AreBodyLines f c lines (refutation rows.items items.items)
body_of f c lines rows items r are_rows s are_items blank = search arith

module _ (f : Dqbf) (c : RowsAndItems) (lines : List TextLine) (number : ℕ) (d : Dqr) where
  by_blanks : (rows : Rows) (items : Items) (blank : Result (Unit {0}) CertRefusal) →
      read_some (row_lines f.universals) tt c.rows lines number ≡ Ok rows →
      read_some (lines_of f c) (from_first f c) c.items rows.rest rows.number ≡ Ok items →
      blank_lines items.rest ≡ blank →
      and_read blank (λ _. Ok (refutation rows.items items.items)) ≡ Ok d → AreBodyLines f c lines d
  by_blanks rows items (Err fault) rows_are items_are is h = cc
  by_blanks rows items (Ok _) rows_are items_are is h =
      let same : refutation rows.items items.items ≡ d = cc in
      let r = read_from_lines (row_lines f.universals) c.rows tt lines number rows rows_are in
      let s = read_from_lines (lines_of f c) c.items (from_first f c) rows.rest rows.number items items_are in
      subst (AreBodyLines f c lines) same
      (body_of f c lines rows items r (rows_spelled f.universals r.spelled rows.items r.each) s
      (items_spelled c.version (is_number f c) (from_first f c) s.spelled items.items s.each)
      (blanks_spelled items.rest is))

  by_items : (rows : Rows) (items : Result Items CertRefusal) →
      read_some (row_lines f.universals) tt c.rows lines number ≡ Ok rows →
      read_some (lines_of f c) (from_first f c) c.items rows.rest rows.number ≡ items →
      and_read items (behind_items f c rows.items) ≡ Ok d → AreBodyLines f c lines d
  by_items rows (Err fault) rows_are is h = cc
  by_items rows (Ok items) rows_are is h = by_blanks rows items (blank_lines items.rest) rows_are is refl h

  by_rows : (rows : Result Rows CertRefusal) → read_some (row_lines f.universals) tt c.rows lines number ≡ rows →
      and_read rows (behind_rows f c) ≡ Ok d → AreBodyLines f c lines d
  by_rows (Err fault) is h = cc
  by_rows (Ok rows) is h = search (arith, by_items)

  body_spelled : read_body f c lines number ≡ Ok d → AreBodyLines f c lines d
  body_spelled h = by_rows (read_some (row_lines f.universals) tt c.rows lines number) refl h

-- a refutation's lines
record AreLines (f : Dqbf) (lines : List TextLine) (d : Dqr) : Type 0 where
  version : Version
  header : Tokens
  spelled_rows : List Tokens
  spelled_items : List Tokens
  blanks : ℕ
  are : by_tokens lines ≡ header ∷ (spelled_rows ++ (spelled_items ++ replicate blanks []))
  head : SpellsHeader header version (length d.rows) (length d.items)
  rows : AllZip (SpellsRow f.universals) spelled_rows d.rows
  items : AllZip (SpellsItem version) spelled_items d.items
  allowed : IsDqrOf f d

with_header : (f : Dqbf) (c : RowsAndItems) (line : TextLine) (lines : List TextLine) (d : Dqr) →
    IsHeader (line_tokens line.text) c → AreBodyLines f c lines d →
    AreLines f (line ∷ lines) d
with_header f c line lines d h b = search (arith, All-from_recursion)

by_header : (f : Dqbf) (line : TextLine) (lines : List TextLine) (d : Dqr) (counts : Result RowsAndItems CertFault) →
    header_of (line_tokens line.text) ≡ counts →
    and_read (at_line line.number counts) (λ c. read_body f c lines (line.number + 1)) ≡ Ok d →
    AreLines f (line ∷ lines) d
by_header f line lines d (Err name) is read = cc
by_header f line lines d (Ok c) is read = search (arith, with_header, header_spelled, body_spelled)

lines_spelled : (f : Dqbf) (lines : List TextLine) (number : ℕ) (d : Dqr) → read_lines f lines number ≡ Ok d →
    AreLines f lines d
lines_spelled f [] number d read = cc
lines_spelled f (line ∷ lines) number d read = by_header f line lines d (header_of (line_tokens line.text)) refl read

pub read_is_spelled : (text : List ℕ) (first : ℕ) (f : Dqbf) (d : Dqr) → refutation_of f text first ≡ Ok d →
    SpellsRefutation text f d
read_is_spelled text first f d read =
    let l = lines_spelled f (lines_from first text) first d read in
    record {
      version = l.version;
      header = l.header;
      row_lines = l.spelled_rows;
      item_lines = l.spelled_items;
      blank_lines = l.blanks;
      lines = same_tokens 1 first text ∙ l.are;
      header_spelled = l.head;
      rows_spelled = l.rows;
      items_spelled = l.items;
      allowed = l.allowed;
    }

pub reading_allowed : (text : List ℕ) (first : ℕ) (f : Dqbf) (made : Result Dqr CertStop) →
    IsReading (refutation_of f text first) made → IfOk made (IsDqrOf f)
reading_allowed text first f (Ok d) read = (read_is_spelled text first f d read).allowed
reading_allowed text first f (Err stop) read = tt
