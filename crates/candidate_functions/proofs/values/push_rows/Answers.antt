use Rattle.std.proofs.Common.{◌<◌, arith, length-append}
use Rattle.candidate_functions.proofs.RowWords.{pushed_more}
use Rattle.candidate_functions.proofs.values.push_rows.Goals as goal

pub loop-b-preserved : goal.loop-b-preserved
loop-b-preserved c =
    let old = c.args.values.now in
    let b = c.loop-b.b in
    let low : b < 64 = omega (arith, c.loop-b-test.true, c.requires) in
    let next = c.in_ok-push.ensures.ok in
    record {
      long = search (arith, length-append);
      are = λ rows graph nodes are from inside. pushed_more rows graph nodes c.args.words.now old c.loop-b.values
          c.push.new.self c.in_ok-row_of.field-0 b low from (omega (arith, c.loop-b-test.true, inside))
          (c.loop-b.invariant.are rows graph nodes are from inside) c.in_ok-row_of.ensures next;
    }
