use Rattle.std.proofs.Common.{◌≡◌, ◌∙◌, ◌+◌, ◌<◌, length, ap, sym, arith, refl, slice_index_or}
use Rattle.std.specs.List.{filter, range_with_len}
use Rattle.std.proofs.lemmas.List.FromFn.{length-map-range_with_len, get_or-map-range_with_len}
use Rattle.hint_log.specs.Entries.{rounds_of}
use Rattle.cert_export.specs.Expansion.{has_instance}
use Rattle.cert_export.proofs.MarkedRounds.{listed, unlisted}
use Rattle.cert_export.proofs.rounds.used_rounds.Goals.{then-index+in_ok-push, else-index}
use Rattle.cert_export.proofs.rounds.used_rounds.Goals as goal

pub loop-k-preserved : goal.loop-k-preserved
loop-k-preserved c =
    let entries = c.args.log.now.entries in
    let has = has_instance entries c.args.ids.now in
    let k = c.loop-k.k in
    let n = rounds_of entries in
    let many : length c.in_ok-marks.marks.items ≡ n = ap length c.in_ok-marks.ensures
    ∙ length-map-range_with_len has 1 n in
    let small : k < n = omega (arith, many, c.len-k-end.ensures, c.loop-k-test.true) in
    let bit = c.index.result.now in
    let mark : bit ≡ has (1 + k) = c.index.ensures ∙ ap (λ xs. slice_index_or xs k bit) c.in_ok-marks.ensures
    ∙ get_or-map-range_with_len has 1 n k (1 + k) bit small refl in
    elim c.if-index.branch [
      | then-index+in_ok-push w ↦ (ap (λ v. v.items) w.rounds-is ∙ w.in_ok-push.ensures.items ∙ listed has k
          c.loop-k.rounds.items c.loop-k.invariant (sym mark ∙ w.if-index.true))
      | else-index w ↦ (ap (λ v. v.items) w.rounds-is ∙ unlisted has k c.loop-k.rounds.items c.loop-k.invariant
          (sym mark ∙ w.if-index.false))
    ]

pub returns : goal.returns
returns c =
    let entries = c.args.log.now.entries in
    let has = has_instance entries c.args.ids.now in
    let many : length c.in_ok-marks.marks.items ≡ rounds_of entries = ap length c.in_ok-marks.ensures
    ∙ length-map-range_with_len has 1 (rounds_of entries) in
    let all : c.loop-k.k ≡ rounds_of entries =
    omega (arith, many, c.len-k-end.ensures, c.loop-k-test.false, c.loop-k.auto.k-end) in
    c.loop-k.invariant ∙ ap (λ n. filter has (range_with_len 1 n)) all
