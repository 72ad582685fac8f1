use Rattle.std.proofs.Common.{◌≡◌, ◌∙◌, ap, subst, Ok}
use Rattle.repair_loop.specs.SearchStates.{IsAnsweredFalse}
use Rattle.repair_loop.proofs.searches.Search.look_again.Goals as goal

pub returns-in_err-id-clause-went : goal.returns-in_err-id-clause-went
returns-in_err-id-clause-went g c = c.look_at_rows.ensures.went c.args.graph.now c.args.checker.now c.requires.search

pub returns-in-Some-clause-went : goal.returns-in-Some-clause-went
returns-in-Some-clause-went g c = c.look_at_rows.ensures.went c.args.graph.now c.args.checker.now c.requires.search

pub returns-in-Some-clause-shown_false : goal.returns-in-Some-clause-shown_false
returns-in-Some-clause-shown_false g c id e =
    let same : c.in-Some.id ≡ id = cc in
    subst (IsAnsweredFalse c.look_at_rows.new.database c.look_at_rows.new.log) same
    (c.look_at_rows.ensures.refuted c.in-Some.id (c.in_ok-id.was ∙ ap Ok c.in-Some.is))

pub returns-in-None-clause-went : goal.returns-in-None-clause-went
returns-in-None-clause-went g c = c.look_at_rows.ensures.went c.args.graph.now c.args.checker.now c.requires.search

pub returns-in-None-clause-open : goal.returns-in-None-clause-open
returns-in-None-clause-open g c e =
    c.look_at_rows.ensures.search c.args.graph.now c.args.checker.now c.requires.search
    (c.in_ok-id.was ∙ ap Ok c.in-None.is)
