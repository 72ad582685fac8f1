use Rattle.std.proofs.Common.{◌≡◌, ◌-◌, length, ◌∙◌, ap, arith}
use Rattle.dq_session.specs.Databases.{DatabaseState, given_at}
use Rattle.dq_session.proofs.DatabasesGiving.{giving_none, giving_then}
use Rattle.dq_session.proofs.LivePlaces.{given_to_none, given_to_more, all_given, added_there}
use Rattle.dq_session.proofs.databases.ClauseDatabase.give_live.Goals as goal

pub loop-at-init : goal.loop-at-init
loop-at-init g c = search (arith, giving_none, given_to_none)

pub overflow_sub-place : goal.overflow_sub-place
overflow_sub-place g c =
    let b = c.args.self.now in
    let m = c.loop-at.self in
    let giving = c.loop-at.invariant.1 in
    let test = c.loop-at-test.true in
    let end = c.len-at-end.ensures in
    let vec = c.self.inside.live.ok.0 in
    let long = ap (λ (x : DatabaseState). length x.live) c.self.view_is in
    let r = added_there b m giving.caught_up giving.database.database.stack c.self-in-loop-at.inside.live.items
    (ap (λ (x : DatabaseState). x.live) c.self-in-loop-at.view_is) c.loop-at.at c.clauses-at.result
    (c.clauses-at.ensures.value ∙ ap (λ (x : DatabaseState). length x.file.matrix) c.self.view_is) c.loop-at.auto.at
    (omega (arith, test, end, vec, long)) c.index.result.now c.index.ensures in
    let number = r.2 in
    omega (arith, number)

pub overflow_sub-place-in-loop-at : goal.overflow_sub-place-in-loop-at
overflow_sub-place-in-loop-at g c =
    let b = c.args.self.now in
    let m = c.loop-at.self in
    let giving = c.loop-at.invariant.1 in
    let test = c.loop-at-test.true in
    let end = c.len-at-end.ensures in
    let vec = c.self.inside.live.ok.0 in
    let long = ap (λ (x : DatabaseState). length x.live) c.self.view_is in
    let r = added_there b m giving.caught_up giving.database.database.stack c.self-in-loop-at.inside.live.items
    (ap (λ (x : DatabaseState). x.live) c.self-in-loop-at.view_is) c.loop-at.at c.clauses-at.result
    (c.clauses-at.ensures.value ∙ ap (λ (x : DatabaseState). length x.file.matrix) c.self.view_is) c.loop-at.auto.at
    (omega (arith, test, end, vec, long)) c.index.result.now c.index.ensures in
    let number = r.2 in
    let many = c.clauses.ensures.value in
    let file = ap (λ (x : DatabaseState). length x.file.matrix) c.self-in-loop-at.view_is in
    omega (arith, number, many, file)

pub give_clause-requires-clause-place : goal.give_clause-requires-clause-place
give_clause-requires-clause-place g c =
    let b = c.args.self.now in
    let m = c.loop-at.self in
    let giving = c.loop-at.invariant.1 in
    let test = c.loop-at-test.true in
    let end = c.len-at-end.ensures in
    let vec = c.self.inside.live.ok.0 in
    let long = ap (λ (x : DatabaseState). length x.live) c.self.view_is in
    let r = added_there b m giving.caught_up giving.database.database.stack c.self-in-loop-at.inside.live.items
    (ap (λ (x : DatabaseState). x.live) c.self-in-loop-at.view_is) c.loop-at.at c.clauses-at.result
    (c.clauses-at.ensures.value ∙ ap (λ (x : DatabaseState). length x.file.matrix) c.self.view_is) c.loop-at.auto.at
    (omega (arith, test, end, vec, long)) c.index.result.now c.index.ensures in
    let number = r.2 in
    let many = c.clauses.ensures.value in
    let file = ap (λ (x : DatabaseState). length x.file.matrix) c.self-in-loop-at.view_is in
    let below = r.3 in
    omega (arith, number, many, file, below)

pub loop-at-preserved : goal.loop-at-preserved
loop-at-preserved g c =
    let b = c.args.self.now in
    let m = c.loop-at.self in
    let giving = c.loop-at.invariant.1 in
    let test = c.loop-at-test.true in
    let end = c.len-at-end.ensures in
    let vec = c.self.inside.live.ok.0 in
    let long = ap (λ (x : DatabaseState). length x.live) c.self.view_is in
    let r = added_there b m giving.caught_up giving.database.database.stack c.self-in-loop-at.inside.live.items
    (ap (λ (x : DatabaseState). x.live) c.self-in-loop-at.view_is) c.loop-at.at c.clauses-at.result
    (c.clauses-at.ensures.value ∙ ap (λ (x : DatabaseState). length x.file.matrix) c.self.view_is) c.loop-at.auto.at
    (omega (arith, test, end, vec, long)) c.index.result.now c.index.ensures in
    let number = r.2 in
    let many = c.clauses.ensures.value in
    let file = ap (λ (x : DatabaseState). length x.file.matrix) c.self-in-loop-at.view_is in
    let n = c.give_clause.new.self in
    let here : r.1 ≡ c.index.result.now.clause - 1 - c.clauses.result = omega (arith, number, many, file) in (
      c.give_clause.ensures.fit,
      giving_then b m n c.args.log.now c.loop-at.log c.give_clause.new.log giving c.give_clause.ensures.giving,
      given_to_more m n c.loop-at.log c.give_clause.new.log c.loop-at.at r.1 c.index.result.now
          c.give_clause.ensures.giving r.0 number (ap (given_at n) here ∙ c.in_ok-give_clause.ensures.done)
          c.loop-at.invariant.2,
    )

pub returns-in_err-give_clause-clause-giving : goal.returns-in_err-give_clause-clause-giving
returns-in_err-give_clause-clause-giving g c = search (arith, giving_then)

pub returns-clause-whole : goal.returns-clause-whole
returns-clause-whole g c = search (arith, all_given)
