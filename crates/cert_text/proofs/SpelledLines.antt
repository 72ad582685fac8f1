-- Lines of a kind, as their reader takes them and as the grammar spells them.
use Rattle.std.proofs.Common.{◌≡◌, ℕ, zero, suc, ◌+◌, ◌≤◌, Bool, true, List, [], ◌∷◌, ◌++◌, length, Result, Ok, Err, refl, ap, arith}
use Rattle.std.specs.List.{AllByRecursion, AllZip}
use Rattle.dq_text.specs.Line.{TextLine, line_tokens}
use Rattle.rup_core.specs.Items.{ProofItem}
use Rattle.cert_text.specs.Grammar.{Tokens, SpellsRow, SpellsItem, IsSmallItem, AreItems}
use Rattle.cert_text.specs.ItemLine.{item_lines}
use Rattle.cert_text.specs.Lines.{Format, LinesRead, and_read, at_line, read_some, with_item}
use Rattle.cert_text.specs.Numbering.{Numbering, behind_item}
use Rattle.cert_text.specs.Scan.{row_lines}
use Rattle.cert_text.specs.declared.faults.CertFault.{CertFault}
use Rattle.cert_text.specs.declared.faults.CertRefusal.{CertRefusal}
use Rattle.cert_text.specs.declared.versions.Version.{Version}
use Rattle.cert_text.proofs.LineTokens.{by_tokens}
use Rattle.cert_text.proofs.Numberings.{IsNumbered, numbered_behind}
use Rattle.cert_text.proofs.SpelledRows.{ArePositive, row_taken, row_spelled}
use Rattle.cert_text.proofs.SpelledItems.{item_taken, item_spelled}

module _ {S A : Type 0} (F : Format S A) where
  -- each line is read as its item, by what stands before it
  abbrev pub AreRead : S → List Tokens → List A → Type 0
  AreRead at [] [] = Unit {0}
  AreRead at [] (item ∷ items) = ⊥
  AreRead at (t ∷ ts) [] = ⊥
  AreRead at (t ∷ ts) (item ∷ items) = (F.line at t ≡ Ok item) × AreRead (F.behind at item) ts items

  pub record ReadsAll (items : List A) (behind : List Tokens) (read : Result (LinesRead A) CertRefusal) : Type 0 where
    pub found : LinesRead A
    pub is : read ≡ Ok found
    pub items_are : found.items ≡ items
    pub behind_are : by_tokens found.rest ≡ behind

  one_more : (item : A) (items : List A) (behind : List Tokens) (read : Result (LinesRead A) CertRefusal) →
      ReadsAll items behind read →
      ReadsAll (item ∷ items) behind (and_read read (with_item item))
  one_more item items behind read r = search arith

  pub all_read : (items : List A) (spelled behind : List Tokens) (at : S) (lines : List TextLine) (number : ℕ) →
      AreRead at spelled items →
      by_tokens lines ≡ spelled ++ behind → ReadsAll items behind (read_some F at (length items) lines number)
  all_read [] [] behind at lines number each are = search arith
  all_read [] (t ∷ ts) behind at lines number each are = absurd each
  all_read (item ∷ items) [] behind at lines number each are = absurd each
  all_read (item ∷ items) (t ∷ ts) behind at [] number each are = cc
  all_read (item ∷ items) (t ∷ ts) behind at (line ∷ lines) number each are =
      search (arith, by_tokens, one_more, (all_read items ts behind))

  -- what was read, and the lines that it was read from
  pub record IsReadFrom (at : S) (count : ℕ) (lines : List TextLine) (r : LinesRead A) : Type 0 where
    pub spelled : List Tokens
    pub are : by_tokens lines ≡ spelled ++ by_tokens r.rest
    pub each : AreRead at spelled r.items
    pub counted : length r.items ≡ count

  in_front : (at : S) (count : ℕ) (line : TextLine) (lines : List TextLine) (item : A) (r : LinesRead A) →
      F.line at (line_tokens line.text) ≡ Ok item →
      IsReadFrom (F.behind at item) count lines r → IsReadFrom at (suc count) (line ∷ lines)
      (record { items = item ∷ r.items; rest = r.rest; number = r.number })
  in_front at count line lines item r here rest = record {
    spelled = line_tokens line.text ∷ rest.spelled;
    are = ap (λ ts. line_tokens line.text ∷ ts) rest.are;
    each = (here, rest.each);
    counted = ap suc rest.counted;
  }

  by_rest : (at : S) (count : ℕ) (line : TextLine) (lines : List TextLine) (r : LinesRead A) (item : A)
      (others : Result (LinesRead A) CertRefusal) →
      F.line at (line_tokens line.text) ≡ Ok item → ((rest : LinesRead A) → others ≡ Ok rest →
      IsReadFrom (F.behind at item) count lines rest) →
      and_read others (with_item item) ≡ Ok r → IsReadFrom at (suc count) (line ∷ lines) r
  by_rest at count line lines r item (Err fault) is given h = cc
  by_rest at count line lines r item (Ok rest) is given h = search (arith, in_front)

  by_first : (at : S) (count : ℕ) (line : TextLine) (lines : List TextLine) (r : LinesRead A)
      (first : Result A CertFault) →
      F.line at (line_tokens line.text) ≡ first →
      ((item : A) (rest : LinesRead A) → read_some F (F.behind at item) count lines (line.number + 1) ≡ Ok rest →
      IsReadFrom (F.behind at item) count lines rest) →
      and_read (at_line line.number first) (λ item. and_read
      (read_some F (F.behind at item) count lines (line.number + 1)) (with_item item)) ≡ Ok r →
      IsReadFrom at (suc count) (line ∷ lines) r
  by_first at count line lines r (Err name) is given h = cc
  by_first at count line lines r (Ok item) is given h = search (arith, by_rest)

  nothing_read : (at : S) (lines : List TextLine) (number : ℕ) →
      IsReadFrom at 0 lines (record { items = []; rest = lines; number = number })
  nothing_read at lines number = record { spelled = []; are = refl; each = tt; counted = refl }

  pub read_from_lines : (count : ℕ) (at : S) (lines : List TextLine) (number : ℕ) (r : LinesRead A) →
      read_some F at count lines number ≡ Ok r →
      IsReadFrom at count lines r
  read_from_lines zero at lines number r h = search (arith, nothing_read)
  read_from_lines (suc count) at [] number r h = cc
  read_from_lines (suc count) at (line ∷ lines) number r h = search (arith, by_first, (read_from_lines count))

-- rows
pub rows_taken : (us : List ℕ) (spelled : List Tokens) (rows : List (List Bool)) → ArePositive us →
    AllZip (SpellsRow us) spelled rows →
    AllByRecursion (λ row. length row ≡ length us) rows → AreRead (row_lines us) tt spelled rows
rows_taken us [] [] some each whole = tt
rows_taken us [] (row ∷ rows) some each whole = absurd each
rows_taken us (t ∷ ts) [] some each whole = absurd each
rows_taken us (t ∷ ts) (row ∷ rows) some each whole =
    (row_taken us t row each.0 some whole.0, rows_taken us ts rows some each.1 whole.1)

pub record AreRows (us : List ℕ) (spelled : List Tokens) (rows : List (List Bool)) : Type 0 where
  pub each : AllZip (SpellsRow us) spelled rows
  pub whole : AllByRecursion (λ row. length row ≡ length us) rows

pub rows_spelled : (us : List ℕ) (spelled : List Tokens) (rows : List (List Bool)) →
    AreRead (row_lines us) tt spelled rows → AreRows us spelled rows
rows_spelled us [] [] each = record { each = tt; whole = tt }
rows_spelled us [] (row ∷ rows) each = absurd each
rows_spelled us (t ∷ ts) [] each = absurd each
rows_spelled us (t ∷ ts) (row ∷ rows) each =
    let here = row_spelled us t row each.0 in
    let rest = rows_spelled us ts rows each.1 in
    record { each = (here.spelled, rest.each); whole = (here.whole, rest.whole) }

-- items
pub items_taken : (version : Version) (p : ℕ → Bool) → ((v : ℕ) → p v ≡ true → 1 ≤ v) →
    (n : Numbering) (spelled : List Tokens) (items : List ProofItem) → IsNumbered n →
    AllZip (SpellsItem version) spelled items → AreItems p n items → AreRead (item_lines version p) n spelled items
items_taken version p some n [] [] numbered each lawful = tt
items_taken version p some n [] (item ∷ items) numbered each lawful = absurd each
items_taken version p some n (t ∷ ts) [] numbered each lawful = absurd each
items_taken version p some n (t ∷ ts) (item ∷ items) numbered each lawful = (
  item_taken version p n t item some numbered each.0 lawful.0,
  items_taken version p some (behind_item n item) ts items (numbered_behind n item numbered) each.1 lawful.1,
)

pub record AreItemLines (version : Version) (p : ℕ → Bool) (n : Numbering) (spelled : List Tokens)
    (items : List ProofItem) : Type 0 where
  pub each : AllZip (SpellsItem version) spelled items
  pub lawful : AreItems p n items
  pub small : AllByRecursion IsSmallItem items

pub items_spelled : (version : Version) (p : ℕ → Bool) (n : Numbering) (spelled : List Tokens) (items : List ProofItem)
    → AreRead (item_lines version p) n spelled items →
    AreItemLines version p n spelled items
items_spelled version p n [] [] each = record { each = tt; lawful = tt; small = tt }
items_spelled version p n [] (item ∷ items) each = absurd each
items_spelled version p n (t ∷ ts) [] each = absurd each
items_spelled version p n (t ∷ ts) (item ∷ items) each =
    let here = item_spelled version p n t item each.0 in
    let rest = items_spelled version p (behind_item n item) ts items each.1 in
    record { each = (here.spelled, rest.each); lawful = (here.lawful, rest.lawful); small = (here.small, rest.small) }
