use Rattle.std.proofs.Common.{◌∙◌, ◌∷◌, [], ◌++◌, take, sym, ap, slice_index, arith}
use Rattle.std.proofs.lemmas.List.{take_all, get_or_default}
use Rattle.cert_export.specs.Expansion.{rows_among}
use Rattle.cert_export.proofs.RoundRows.{row_more}
use Rattle.cert_export.proofs.refutations.round_rows.Goals as goal

pub row-requires : goal.row-requires
row-requires c = search arith

pub loop-k-preserved : goal.loop-k-preserved
loop-k-preserved c =
    let entries = c.args.log.now.entries in
    let rounds = c.args.rounds.now in
    let i = c.loop-k.k-index in
    let k = slice_index rounds i in
    let row = c.row.result.now in
    c.in_ok-push.ensures.ok ∙ ap (λ rs. rs ++ c.in_ok-copy.field-0 ∷ []) c.loop-k.invariant ∙ ap
    (λ r. rows_among entries (take i rounds) ++ r ∷ []) c.in_ok-copy.ensures ∙ sym
    (row_more entries rounds i k row c.loop-k-test.true (get_or_default rounds i 0 k c.loop-k-test.true)
    c.row.ensures)

pub returns : goal.returns
returns c = c.loop-k.invariant ∙ ap (rows_among c.args.log.now.entries)
    (take_all c.loop-k.k-index c.args.rounds.now c.loop-k-test.false)
