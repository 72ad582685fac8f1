-- What is judged of lines, line by line.
use Rattle.std.proofs.Common.{◌≡◌, ℕ, Bool, List, [], ◌∷◌, ◌++◌, map, Option, Some, Result, Ok, Err, refl, sym, ◌∙◌, ap, subst, append-nil}
use Rattle.std.specs.Prelude.{IfSome}
use Rattle.dq_lits.specs.Formula.{Dqbf}
use Rattle.dq_text.specs.Line.{TextLine}
use Rattle.rup_core.specs.Items.{ProofItem}
use Rattle.rup_core.specs.Runs.{Run, run_fault, with_item, with_items}
use Rattle.cert_text.specs.ItemLine.{item_lines}
use Rattle.cert_text.specs.Lines.{LinesRead, and_read, read_some}
use Rattle.cert_text.specs.Pairs.{is_pair_number}
use Rattle.cert_text.specs.Scan.{blank_lines}
use Rattle.cert_text.specs.declared.faults.CertRefusal.{CertRefusal}
use Rattle.cert_text.specs.declared.refutations.Dqr.{Dqr}
use Rattle.cert_stream.specs.RefutationLines.{IsNextItem, MayCome, RefutationBody, RefutationLines, body_gives, in_front, lines_give, rows_so_far, with_item_read}
use Rattle.refutation_checker.specs.Refutation.{normal_item}
use Rattle.cert_stream.specs.RefutationState.{fault_behind, judged, run_behind, run_or_start}
use Rattle.cert_stream.proofs.LineSteps.{LineStep, header_step, row_step, item_step, blank_step}

-- where all rows came, the rows are those that came
end_rows : (rows : List (List Bool)) (items : List ProofItem) (b : Result (Unit {0}) CertRefusal) (d : Dqr) →
    and_read b (λ _. Ok (record { rows = rows; items = items })) ≡ Ok d → d.rows ≡ rows
end_rows rows items (Ok _) d is =
    let e : (λ (x : Dqr). x) (record { rows = rows; items = items }) ≡ d = cc in sym (ap (λ (x : Dqr). x.rows) e)
end_rows rows items (Err fault) d is = cc

items_rows : (rows : List (List Bool)) (read : Result (LinesRead ProofItem) CertRefusal) (d : Dqr) →
    and_read read (λ items. and_read (blank_lines items.rest)
    (λ _. Ok (record { rows = rows; items = items.items }))) ≡ Ok d → d.rows ≡ rows
items_rows rows (Ok r) d is = end_rows rows r.items (blank_lines r.rest) d is
items_rows rows (Err fault) d is = cc

rows_kept : (f : Dqbf) (body : RefutationBody) (lines : List TextLine) (number : ℕ) (d : Dqr) → body.rows_left ≡ 0 →
    body_gives f body lines number ≡ Ok d → d.rows ≡ body.rows
rows_kept f body lines number d none is =
    items_rows (body.rows ++ []) (read_some (item_lines body.version (is_pair_number f body.row_count)) body.numbering
    body.items_left lines number) d (sym (ap (λ n. body_gives f (record body { rows_left = n }) lines number) none)
    ∙ is)
    ∙ append-nil body.rows

-- an item in front
item_judged : (f : Dqbf) (rows : List (List Bool)) (run : Option Run) (item : ProofItem)
    (read : Result Dqr CertRefusal) → ((d : Dqr) → read ≡ Ok d → d.rows ≡ rows) →
    and_read (in_front (Some item) read) (λ d. Ok (fault_behind f run d))
    ≡ and_read read (λ d. Ok (fault_behind f (Some (with_item (run_or_start f rows run) (normal_item f rows item))) d))
item_judged f rows run item (Ok d) same =
    ap (λ rs. Ok (run_fault (with_items (with_item (run_or_start f rs run) (normal_item f rs item))
    (map (normal_item f d.rows) d.items)))) (same d refl)
item_judged f rows run item (Err fault) same = refl

pub may_be : {f : Dqbf} {body : Option RefutationBody} (b : RefutationBody) (item : ProofItem) → body ≡ Some b →
    MayCome f body item → IsNextItem f b item
may_be {f} b item there may = subst (λ o. MayCome f o item) there may

-- one line, and then those behind it
pub judged_step : (r next : RefutationLines) (run : Option Run) (line : TextLine) (lines : List TextLine) →
    LineStep r next → IfSome next.item (MayCome r.formula r.body) →
    lines_give r (line ∷ lines) ≡ in_front next.item (lines_give next lines) →
    judged r run (line ∷ lines) ≡ judged next (run_behind r.formula (rows_so_far next.body) run next.item) lines
judged_step r next run line lines (header_step counts none) may law =
    ap (λ l. and_read l (λ d. Ok (fault_behind r.formula run d))) law
judged_step r next run line lines (row_step body row there more) may law =
    ap (λ l. and_read l (λ d. Ok (fault_behind r.formula run d))) law
judged_step r next run line lines (blank_step body there) may law =
    ap (λ l. and_read l (λ d. Ok (fault_behind r.formula run d))) law
judged_step r next run line lines (item_step body item there) may law =
    let came = may_be body item there may in
    ap (λ l. and_read l (λ d. Ok (fault_behind r.formula run d))) law
    ∙ item_judged r.formula body.rows run item (lines_give next lines)
    (λ d is. rows_kept r.formula (with_item_read body item).body lines next.number d came.rows is)
