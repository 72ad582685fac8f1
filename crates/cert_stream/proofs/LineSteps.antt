-- What a line of a refutation may be.
use Rattle.std.proofs.Common.{◌≡◌, ℕ, nat_lt, Bool, true, false, cond, List, Option, None, Some, Result, Ok, Err, refl, subst}
use Rattle.dq_text.specs.BlankLine.{is_blank_line}
use Rattle.dq_text.specs.Line.{line_tokens}
use Rattle.rup_core.specs.Items.{ProofItem}
use Rattle.cert_text.specs.Header.{header_of}
use Rattle.cert_text.specs.ItemLine.{item_line}
use Rattle.cert_text.specs.LineStop.{and_then}
use Rattle.cert_text.specs.Pairs.{is_pair_number}
use Rattle.cert_text.specs.RowLine.{row_line}
use Rattle.cert_text.specs.declared.faults.CertFault.{CertFault}
use Rattle.cert_text.specs.declared.faults.CertFault.TheVariants.{BadLine}
use Rattle.cert_text.specs.declared.headers.RowsAndItems.{RowsAndItems}
use Rattle.cert_stream.specs.RefutationLines.{BodyRead, RefutationBody, RefutationLines, behind_line, body_behind, line_read, with_item_read, with_line, with_row, without_item}

pub data LineStep (r : RefutationLines) : RefutationLines → Type 0 where
  header_step : (counts : RowsAndItems) → r.body ≡ None →
      LineStep r (behind_line r (without_item (body_behind r.formula counts)))
  row_step : (body : RefutationBody) (row : List Bool) → r.body ≡ Some body → nat_lt 0 body.rows_left ≡ true →
      LineStep r (behind_line r (with_row body row))
  item_step : (body : RefutationBody) (item : ProofItem) → r.body ≡ Some body →
      LineStep r (behind_line r (with_item_read body item))
  blank_step : (body : RefutationBody) → r.body ≡ Some body → LineStep r (behind_line r (without_item body))

module _ (r next : RefutationLines) where
  abbrev Steps : Result BodyRead CertFault → Type 0
  Steps line = and_then (λ read. Ok (behind_line r read)) line ≡ Ok next → LineStep r next

  step_by : (read : BodyRead) → LineStep r (behind_line r read) → Steps (Ok read)
  step_by read step is = let same : behind_line r read ≡ next = cc in subst (LineStep r) same step

  by_header : (h : Result RowsAndItems CertFault) → r.body ≡ None →
      Steps (and_then (λ counts. Ok (without_item (body_behind r.formula counts))) h)
  by_header (Ok counts) none = step_by (without_item (body_behind r.formula counts)) (header_step counts none)
  by_header (Err name) none = λ is. cc

  by_row : (body : RefutationBody) (h : Result (List Bool) CertFault) → r.body ≡ Some body →
      nat_lt 0 body.rows_left ≡ true → Steps (and_then (λ row. Ok (with_row body row)) h)
  by_row body (Ok row) there more = step_by (with_row body row) (row_step body row there more)
  by_row body (Err name) there more = λ is. cc

  by_item : (body : RefutationBody) (h : Result ProofItem CertFault) → r.body ≡ Some body →
      Steps (and_then (λ item. Ok (with_item_read body item)) h)
  by_item body (Ok item) there = step_by (with_item_read body item) (item_step body item there)
  by_item body (Err name) there = λ is. cc

  by_blank : (body : RefutationBody) (b : Bool) → r.body ≡ Some body →
      Steps (cond b (Ok (without_item body)) (Err BadLine))
  by_blank body true there = step_by (without_item body) (blank_step body there)
  by_blank body false there = λ is. cc

  by_test : (b : Bool) (x y : Result BodyRead CertFault) → (b ≡ true → Steps x) → Steps y → Steps (cond b x y)
  by_test true x y here there = here refl
  by_test false x y here there = there

  by_body : (body : Option RefutationBody) (text : List ℕ) → r.body ≡ body → Steps (line_read r.formula body text)
  by_body None text there = by_header (header_of (line_tokens text)) there
  by_body (Some body) text there =
      by_test (nat_lt 0 body.rows_left) _ _ (by_row body (row_line r.formula.universals (line_tokens text)) there)
      (by_test (nat_lt 0 body.items_left) _ _
      (λ more. by_item body (item_line body.version (is_pair_number r.formula body.row_count) body.numbering
      (line_tokens text)) there)
      (by_blank body (is_blank_line text) there))

  pub step_of : (text : List ℕ) → with_line r text ≡ Ok next → LineStep r next
  step_of text read = by_body r.body text refl read
