use Rattle.std.proofs.Common.{◌≡◌, ◌+◌, ◌∷◌, ◌++◌, length, take, drop, arith, sym, ap, ◌∙◌}
use Rattle.std.proofs.lemmas.List.{length-drop}
use Rattle.cert_text.specs.Steps.{step_seen}
use Rattle.proof_deletions.specs.Deletions.{lines_of, first_number, deletion, deleting_from, with_deletions}
use Rattle.proof_deletions.proofs.NumberedLines.{id_at, number_at, in_two, first_lines, as_many}
use Rattle.proof_deletions.proofs.SpentIds.{spent_at, deleting_next, deleting_last}
use Rattle.proof_deletions.proofs.deletions.write_items.Goals.{then-place-len+in_ok-numbers+in_ok-push_deletion, else-place-len}
use Rattle.proof_deletions.proofs.deletions.write_items.Goals as goal

pub push-requires : goal.push-requires
push-requires c = id_at c.args.lines.now c.loop-place.place
    (step_seen c.line_at.result) c.requires.lines c.line_at.ensures

pub loop-place-preserved : goal.loop-place-preserved
loop-place-preserved c =
    let items = c.args.lines.now in
    let steps = lines_of items in
    let first = first_number steps in
    let place = c.loop-place.place in
    let step = step_seen c.line_at.result in
    let later = drop (place + 1) steps in
    let cut = in_two steps place step c.line_at.ensures in
    let before = (first_lines steps place step c.line_at.ensures).0 in
    let many = as_many items c.requires.lines.lines in
    let left = length-drop (place + 1) steps in
    let here = c.loop-place-test.true in
    let whole : c.loop-place.items ++ deleting_from first (step ∷ later) ≡ with_deletions items =
    ap (λ ss. c.loop-place.items ++ deleting_from first ss) (sym cut.0) ∙ c.loop-place.invariant in
    let pushed = c.in_ok-push.ensures.ok in
    elim c.if-place-len.branch [
      | then-place-len+in_ok-numbers+in_ok-push_deletion w ↦
          ap (λ is. is ++ deleting_from first later) (w.items-is ∙ w.in_ok-push_deletion.ensures
          ∙ ap (λ is. is ++ deletion w.deref.result.now) pushed)
          ∙ deleting_next first c.loop-place.items step later w.deref.result.now
          (let more = w.if-place-len.true in let l = c.len.ensures.value in omega (arith, more, l, left, many))
          (w.deref.ensures.value ∙ w.in_ok-numbers.ensures
          ∙ spent_at first (length items) place steps (take place steps) later step c.args.chains.now.table.items
          c.requires.uses cut.1 before many
          (number_at items place step c.requires.lines c.line_at.ensures))
          ∙ whole
      | else-place-len w ↦
          ap (λ is. is ++ deleting_from first later) (w.items-is ∙ pushed)
          ∙ deleting_last first c.loop-place.items step later
          (let none = w.if-place-len.false in let l = c.len.ensures.value in omega (arith, none, l, left, many, here))
          ∙ whole
    ]
