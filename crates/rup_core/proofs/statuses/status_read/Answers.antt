use Rattle.std.proofs.Common.{◌+◌, arith}
use Rattle.rup_core.specs.Extension.{seen}
use Rattle.rup_core.proofs.ReadStatus.{status_before_more, status_whole, status_stuck, literal_in_range, free_after, within_after}
use Rattle.rup_core.proofs.statuses.status_read.Goals as goal

pub returns-then-is_stuck-clause-status : goal.returns-then-is_stuck-clause-status
returns-then-is_stuck-clause-status g c =
    let found = g.B.Base.clauses c.args.base.now c.args.id in
    let more = status_before_more c.args.trail.now.trues found c.loop-i.i c.in-Some.size c.lit-l.result
    (seen c.loop-i.status) (seen c.with_literal-status.result)
    c.value.result c.in-Some.ensures c.loop-i-test.true c.lit-l.ensures c.value.ensures c.loop-i.invariant.read
    c.with_literal-status.ensures in
    status_stuck c.args.trail.now.trues found (c.loop-i.i + 1) c.in-Some.size
    (seen c.with_literal-status.result) c.in-Some.ensures
    (omega (arith, c.loop-i-test.true)) more (c.is_stuck.ensures c.if-is_stuck.true)

pub loop-i-preserved : goal.loop-i-preserved
loop-i-preserved g c =
    let trail = c.args.trail.now in
    let found = g.B.Base.clauses c.args.base.now c.args.id in
    let before = seen c.loop-i.status in
    let after = seen c.with_literal-status.result in
    record {
      read = status_before_more trail.trues found c.loop-i.i c.in-Some.size c.lit-l.result before after c.value.result
          c.in-Some.ensures c.loop-i-test.true
          c.lit-l.ensures c.value.ensures c.loop-i.invariant.read c.with_literal-status.ensures;
      free = free_after trail.trues before after c.lit-l.result c.value.result c.loop-i.invariant.free c.value.ensures
          c.with_literal-status.ensures;
      within = λ n stands. within_after n before after c.lit-l.result c.value.result
          (c.loop-i.invariant.within n stands)
          (literal_in_range found c.loop-i.i c.in-Some.size n c.lit-l.result c.in-Some.ensures c.loop-i-test.true
          c.lit-l.ensures stands)
          c.with_literal-status.ensures;
    }

pub returns-clause-status : goal.returns-clause-status
returns-clause-status g c =
    status_whole c.args.trail.now.trues (g.B.Base.clauses c.args.base.now c.args.id) c.loop-i.i c.in-Some.size
    (seen c.loop-i.status) c.in-Some.ensures
    c.loop-i-test.false c.loop-i.invariant.read
