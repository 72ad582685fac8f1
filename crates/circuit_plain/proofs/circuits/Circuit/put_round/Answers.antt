use Rattle.std.proofs.lemmas.Bool.{OnTrue_at, OnFalse_at}
use Rattle.number_tables.specs.Numbers.{has_number}
use Rattle.circuit_plain.proofs.SortSteps.{round_grown, round_passed}
use Rattle.circuit_plain.proofs.circuits.Circuit.put_round.Goals.{then-branch, else-branch}
use Rattle.circuit_plain.proofs.circuits.Circuit.put_round.Goals as goal

pub loop-place-preserved : goal.loop-place-preserved
loop-place-preserved c =
    let so_far = c.loop-place.invariant in
    elim c.if-branch.branch [
      | then-branch w ↦
          rw w.added-is
          (round_grown c.args.self.now c.args.draft.now.places.items c.loop-place.draft.places.items _
          (has_number c.loop-place.draft.settled) _
          c.loop-place.added c.loop-place.place so_far c.in_ok-put.ensures.draft
          (OnTrue_at w.if-branch.true c.in_ok-put.ensures.added))
      | else-branch w ↦
          let passed = OnFalse_at w.if-branch.false c.in_ok-put.ensures.passed in
          rw w.added-is
          (round_passed c.args.self.now c.args.draft.now.places.items c.loop-place.draft.places.items _
          (has_number c.loop-place.draft.settled) _
          c.loop-place.added c.loop-place.place so_far c.in_ok-put.ensures.draft passed.0 passed.1)
    ]
