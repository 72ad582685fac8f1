use Rattle.std.proofs.Common.{sym}
use Rattle.rup_core.proofs.AssignedLiterals.{all_taken_back, taken_back, beyond_taken_back}
use Rattle.rup_core.proofs.trails.unassign.Goals as goal
use Rattle.rup_core.proofs.trails.unassign.Goals.{then-place-near, else-place-near}

pub loop-l-preserved : goal.loop-l-preserved
loop-l-preserved c =
    elim c.if-place-near.branch [
      | then-place-near w ↦
          rw w.near-is
          (taken_back c.loop-l.near c.args.literals.now c.loop-l.l-index c.place_of-place.result c.l-item.result
          c.loop-l-test.true (sym c.l-item.is)
          c.place_of-place.ensures c.loop-l.invariant)
      | else-place-near w ↦
          rw w.near-is
          (beyond_taken_back c.loop-l.near c.args.literals.now c.loop-l.l-index c.place_of-place.result c.l-item.result
          c.loop-l-test.true (sym c.l-item.is)
          c.place_of-place.ensures w.if-place-near.false c.loop-l.invariant)
    ]

pub returns : goal.returns
returns c = all_taken_back c.loop-l.near c.args.literals.now c.loop-l.l-index c.loop-l-test.false c.loop-l.invariant
