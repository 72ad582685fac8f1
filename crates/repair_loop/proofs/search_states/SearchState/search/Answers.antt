use Rattle.std.proofs.Common.{◌≡◌, ◌∙◌, ap, Some, Ok, arith}
use Rattle.repair_loop.proofs.Turned.{ended_both}
use Rattle.repair_loop.proofs.search_states.SearchState.search.Goals as goal

pub returns-in-Some-clause-shown_true : goal.returns-in-Some-clause-shown_true
returns-in-Some-clause-shown_true g c nodes id e =
    let same : c.in-Some.verdict ≡ _ = cc in
    c.look_first.ensures.shown_true nodes id (c.in_ok-verdict.was ∙ ap Ok (c.in-Some.is ∙ ap Some same))

pub returns-in-Some-clause-shown_false : goal.returns-in-Some-clause-shown_false
returns-in-Some-clause-shown_false g c id e =
    let same : c.in-Some.verdict ≡ _ = cc in
    c.look_first.ensures.shown_false id (c.in_ok-verdict.was ∙ ap Ok (c.in-Some.is ∙ ap Some same))

pub returns-in-None-clause-ended : goal.returns-in-None-clause-ended
returns-in-None-clause-ended g c = search (arith, ended_both)
