use Rattle.std.proofs.Common.{arith, length-drop}
use Rattle.std.proofs.lemmas.List.{take_rest}
use Rattle.dq_io.proofs.KnownLists.{taken_more}
use Rattle.dq_io.proofs.writing.write_all.Goals as goal

pub loop-written-preserved : goal.loop-written-preserved
loop-written-preserved g c =
    let bytes = c.args.bytes.now in
    let at = c.loop-written.written in
    let bound = rw take_rest at c.in_ok-written.ensures.bound in
    let taken = rw take_rest at c.in_ok-written.ensures.taken in
    let cause = c.in_ok-written.ensures.cause in
    record {
      within = omega (arith, bound, length-drop at bytes);
      taken = taken_more _ _ _ bytes at _ c.loop-written.invariant.taken taken;
      unfaulted = rw cause.succeeded c.loop-written.invariant.unfaulted;
    }
