use Rattle.std.proofs.Common.{◌≡◌, ◌+◌, ◌<◌, length, slice_get, Some, refl, sym, ◌∙◌, ap, arith}
use Rattle.std.proofs.lemmas.Option.{slice_get-get_or}
use Rattle.rup_core.specs.Extension.{seen}
use Rattle.rup_core.proofs.ReadStatus.{status_before_more, status_whole, status_stuck, literal_in_range, free_after, within_after}
use Rattle.rup_core.proofs.statuses.status_among.Goals as goal

pub returns-then-is_stuck-clause-status : goal.returns-then-is_stuck-clause-status
returns-then-is_stuck-clause-status c =
    let lits = c.args.lits.now in
    let i = c.loop-l.l-index in
    let l = c.l-item.result in
    let inside : i < length lits = omega (arith, c.loop-l-test.true) in
    let at : slice_get lits i ≡ Some l = slice_get-get_or lits i l inside ∙ ap Some (sym c.l-item.is) in
    let more = status_before_more c.args.trail.now.trues (Some lits) i (length lits) l (seen c.loop-l.status)
    (seen c.with_literal-status.result)
    c.value.result refl inside at c.value.ensures c.loop-l.invariant.read c.with_literal-status.ensures in
    status_stuck c.args.trail.now.trues (Some lits) (i + 1) (length lits) (seen c.with_literal-status.result) refl
    (omega (arith, inside)) more (c.is_stuck.ensures c.if-is_stuck.true)

pub loop-l-preserved : goal.loop-l-preserved
loop-l-preserved c =
    let lits = c.args.lits.now in
    let i = c.loop-l.l-index in
    let l = c.l-item.result in
    let trail = c.args.trail.now in
    let before = seen c.loop-l.status in
    let after = seen c.with_literal-status.result in
    let inside : i < length lits = omega (arith, c.loop-l-test.true) in
    let at : slice_get lits i ≡ Some l = slice_get-get_or lits i l inside ∙ ap Some (sym c.l-item.is) in
    record {
      read = status_before_more trail.trues (Some lits) i (length lits) l before after c.value.result refl inside at
          c.value.ensures
          c.loop-l.invariant.read c.with_literal-status.ensures;
      free = free_after trail.trues before after l c.value.result c.loop-l.invariant.free c.value.ensures
          c.with_literal-status.ensures;
      within = λ n stands. within_after n before after l c.value.result (c.loop-l.invariant.within n stands)
          (literal_in_range (Some lits) i (length lits) n l refl inside at stands) c.with_literal-status.ensures;
    }

pub returns-clause-status : goal.returns-clause-status
returns-clause-status c =
    status_whole c.args.trail.now.trues (Some c.args.lits.now) c.loop-l.l-index (length c.args.lits.now)
    (seen c.loop-l.status) refl
    c.loop-l-test.false c.loop-l.invariant.read
