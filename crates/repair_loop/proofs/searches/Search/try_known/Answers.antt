use Rattle.std.proofs.Common.{◌≡◌, ◌∙◌, ap, Some, Ok}
use Rattle.repair_loop.proofs.Turned.{ended_by, ended_then}
use Rattle.repair_loop.proofs.searches.Search.try_known.Goals as goal

pub returns-in-Some-clause-shown_true : goal.returns-in-Some-clause-shown_true
returns-in-Some-clause-shown_true g c nodes id e =
    let same : c.in-Some.verdict ≡ _ = cc in
    c.round.ensures.shown_true nodes id (c.in_ok-verdict.was ∙ ap Ok (c.in-Some.is ∙ ap Some same))

pub returns-in-Some-clause-shown_false : goal.returns-in-Some-clause-shown_false
returns-in-Some-clause-shown_false g c id e =
    let same : c.in-Some.verdict ≡ _ = cc in
    c.round.ensures.shown_false id (c.in_ok-verdict.was ∙ ap Ok (c.in-Some.is ∙ ap Some same))

pub returns-in-None-clause-ended : goal.returns-in-None-clause-ended
returns-in-None-clause-ended g c =
    let s = c.args.self.now in
    let next = c.round.ensures.open (c.in_ok-verdict.was ∙ ap Ok c.in-None.is) in
    ended_then s.f.now c.args.database.now c.round.new.database c.look_again.new.database c.args.checker.now c.round.new.checker
    s.definability.now s.may_ask c.args.log.now c.round.new.log c.look_again.new.log next.went
    (ended_by s.f.now c.round.new.database c.look_again.new.database c.round.new.checker c.round.new.checker s.definability.now s.may_ask
    c.round.new.log c.look_again.new.log c.look_again.ensures.went)
