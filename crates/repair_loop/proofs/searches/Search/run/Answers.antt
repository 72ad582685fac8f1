use Rattle.std.proofs.Common.{◌≡◌, ◌∙◌, ap, subst, Ok}
use Rattle.repair_loop.specs.SearchStates.{IsAnsweredFalse}
use Rattle.repair_loop.proofs.Turned.{ended_by, ended_then}
use Rattle.repair_loop.proofs.searches.Search.run.Goals as goal

pub returns-in_err-id-clause-ended : goal.returns-in_err-id-clause-ended
returns-in_err-id-clause-ended g c =
    let s = c.args.self.now in
    ended_by s.f.now c.args.database.now c.look_at_rows.new.database c.args.checker.now c.args.checker.now s.definability.now s.may_ask
    c.args.log.now c.look_at_rows.new.log
    (c.look_at_rows.ensures.went c.args.graph.now c.args.checker.now c.requires.search)

pub returns-in_err-id-clause-way : goal.returns-in_err-id-clause-way
returns-in_err-id-clause-way g c other =
    (c.look_at_rows.ensures.went c.args.graph.now c.args.checker.now c.requires.search).way

pub run_on-requires-clause-search : goal.run_on-requires-clause-search
run_on-requires-clause-search g c =
    c.look_at_rows.ensures.search c.args.graph.now c.args.checker.now c.requires.search
    (c.in_ok-id.was ∙ ap Ok c.in-None.is)

pub returns-in-Some-clause-ended : goal.returns-in-Some-clause-ended
returns-in-Some-clause-ended g c =
    let s = c.args.self.now in
    ended_by s.f.now c.args.database.now c.look_at_rows.new.database c.args.checker.now c.args.checker.now s.definability.now s.may_ask
    c.args.log.now c.look_at_rows.new.log
    (c.look_at_rows.ensures.went c.args.graph.now c.args.checker.now c.requires.search)

pub returns-in-Some-clause-way : goal.returns-in-Some-clause-way
returns-in-Some-clause-way g c other =
    (c.look_at_rows.ensures.went c.args.graph.now c.args.checker.now c.requires.search).way

pub returns-in-Some-clause-shown_false : goal.returns-in-Some-clause-shown_false
returns-in-Some-clause-shown_false g c id e =
    let same : c.in-Some.id ≡ id = cc in
    subst (IsAnsweredFalse c.look_at_rows.new.database c.look_at_rows.new.log) same
    (c.look_at_rows.ensures.refuted c.in-Some.id (c.in_ok-id.was ∙ ap Ok c.in-Some.is))

pub returns-in-None-clause-ended : goal.returns-in-None-clause-ended
returns-in-None-clause-ended g c =
    let s = c.args.self.now in
    ended_then s.f.now c.args.database.now c.look_at_rows.new.database c.run_on.new.database c.args.checker.now c.args.checker.now
    s.definability.now s.may_ask c.args.log.now c.look_at_rows.new.log c.run_on.new.log
    (c.look_at_rows.ensures.went c.args.graph.now c.args.checker.now c.requires.search) c.run_on.ensures.ended
