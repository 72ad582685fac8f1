use Rattle.std.proofs.Common.{◌≡◌, ◌∙◌, ◌∷◌, [], ◌++◌, false, length, map, replicate, take, ap, sym, slice_index, arith}
use Rattle.std.proofs.lemmas.List.{take_all, take_more, get_or_default}
use Rattle.std.proofs.lemmas.List.FromFn.{length-map-range_with_len}
use Rattle.std.specs.List.{range_with_len}
use Rattle.hint_log.specs.Entries.{rounds_of}
use Rattle.cert_export.specs.Expansion.{has_instance}
use Rattle.cert_export.specs.Exportable.{with_mark}
use Rattle.cert_export.proofs.MarkedRounds.{none_marked, marked_more}
use Rattle.cert_export.proofs.rounds.marked_rounds.Goals as goal

pub loop-id-init : goal.loop-id-init
loop-id-init c = c.in_ok-marks.ensures ∙ ap (λ n. replicate n false) c.rounds.ensures
    ∙ none_marked (rounds_of c.args.log.now.entries) 1

pub mark_round-requires : goal.mark_round-requires
mark_round-requires c k j is =
    let entries = c.args.log.now.entries in
    let ids = c.args.ids.now in
    let i = c.loop-id.id-index in
    let id = slice_index ids i in
    let within = c.requires.rounds id k j
    (i, c.loop-id-test.true, sym (get_or_default ids i 0 id c.loop-id-test.true)) (c.origin.ensures ∙ is) in
    let many : length c.loop-id.marks.items ≡ rounds_of entries = ap length c.loop-id.invariant
    ∙ length-map-range_with_len (has_instance entries (take i ids)) 1 (rounds_of entries) in
    (within.0, omega (arith, many, within.1))

pub loop-id-preserved : goal.loop-id-preserved
loop-id-preserved c =
    let entries = c.args.log.now.entries in
    let ids = c.args.ids.now in
    let i = c.loop-id.id-index in
    let id = slice_index ids i in
    let n = rounds_of entries in
    let done = take i ids in
    let is = get_or_default ids i 0 id c.loop-id-test.true in
    c.mark_round.ensures ∙ ap (λ marks. with_mark marks c.origin.result) c.loop-id.invariant
    ∙ ap (with_mark (map (has_instance entries done) (range_with_len 1 n))) (sym c.origin.ensures)
    ∙ marked_more entries done id n (λ k j own. c.requires.rounds id k j (i, c.loop-id-test.true, sym is) own)
    ∙ ap (λ x. map (has_instance entries (done ++ x ∷ [])) (range_with_len 1 n)) is
    ∙ ap (λ xs. map (has_instance entries xs) (range_with_len 1 n)) (sym (take_more ids i id c.loop-id-test.true))

pub returns : goal.returns
returns c =
    let entries = c.args.log.now.entries in
    c.loop-id.invariant ∙ ap (λ ids. map (has_instance entries ids) (range_with_len 1 (rounds_of entries)))
    (take_all c.loop-id.id-index c.args.ids.now c.loop-id-test.false)
