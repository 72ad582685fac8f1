use Rattle.std.proofs.Common.{length, sym, ◌∙◌, ap, subst, arith}
use Rattle.dq_session.specs.Databases.{DatabaseState, frame_at, HasGroup}
use Rattle.dq_session.proofs.DatabasesGiving.{giving_then}
use Rattle.dq_session.proofs.databases.ClauseDatabase.give_clause.Goals as goal

pub loop-k-preserved : goal.loop-k-preserved
loop-k-preserved g c =
    let m = c.loop-k.self in
    let n = c.give_under.new.self in
    let giving = c.give_under.ensures.giving in
    let same = giving.caught_up.same in
    let test = c.loop-k-test.true in
    let group = c.loop-k.invariant.5 in (
      c.give_under.ensures.fit,
      giving_then c.args.self.now m n c.args.log.now c.loop-k.log c.give_under.new.log c.loop-k.invariant.1 giving,
      c.loop-k.invariant.2 ∙ sym (ap (λ (x : DatabaseState). length x.table.rows) same),
      omega (arith, test),
      c.in_ok-give_under.ensures.given,
      (
        group.0,
        subst (λ F. HasGroup n F group.0) (sym (ap (λ (x : DatabaseState). frame_at x c.args.place) same))
            (giving.caught_up.made (frame_at m c.args.place) group.0 group.1),
      ),
    )

pub returns-in_err-give_under-clause-giving : goal.returns-in_err-give_under-clause-giving
returns-in_err-give_under-clause-giving g c = search (arith, giving_then)

pub returns-clause-giving : goal.returns-clause-giving
returns-clause-giving g c = c.loop-k.invariant.1

pub returns-clause-done : goal.returns-clause-done
returns-clause-done g c = search arith
