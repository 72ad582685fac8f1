use Rattle.std.proofs.Common.{◌∙◌, sym, ap, arith}
use Rattle.std.proofs.lemmas.List.{length-set}
use Rattle.cdcl_core.specs.Chains.{has, with_open}
use Rattle.cdcl_core.proofs.LinkedLists.{has_first, open_fits}
use Rattle.cdcl_core.proofs.VisitedClauses.{first_left, linked_end, kept_lists, has_open, putting_first, putting_next, putting_fewer}
use Rattle.cdcl_core.proofs.propagation.put_all_back.Goals as goal

pub loop-at-init : goal.loop-at-init
loop-at-init c = search (arith, putting_first)

pub put_back-at-requires-clause-is_id : goal.put_back-at-requires-clause-is_id
put_back-at-requires-clause-is_id c =
    let left = c.loop-at.invariant.back.left in
    (first_left (with_open c.loop-at.these c.loop-at.kept) c.loop-at.at left.rest left.linked c.loop-at-test.true).is_id

pub put_back-at-requires-clause-watched : goal.put_back-at-requires-clause-watched
put_back-at-requires-clause-watched c =
    let left = c.loop-at.invariant.back.left in
    let f = first_left (with_open c.loop-at.these c.loop-at.kept) c.loop-at.at left.rest left.linked c.loop-at-test.true in
    left.watched c.loop-at.at (ap (λ xs. has xs c.loop-at.at) f.is ∙ has_first c.loop-at.at f.later)
    ∙ sym c.loop-at.invariant.literal

pub loop-at-preserved : goal.loop-at-preserved
loop-at-preserved c = search (arith, putting_next, kept_lists)

pub loop-at-smaller : goal.loop-at-smaller
loop-at-smaller c = search (arith, putting_fewer)

pub close-requires-clause-fits : goal.close-requires-clause-fits
close-requires-clause-fits c = search (arith, has_open, length-set, open_fits)

pub returns-clause-linked : goal.returns-clause-linked
returns-clause-linked c = search (arith, linked_end)
