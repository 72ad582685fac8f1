use Rattle.std.proofs.Common.{◌≡◌, ◌∙◌, ap, Some, Ok, arith}
use Rattle.list_laws.proofs.Results.{on_err}
use Rattle.repair_loop.proofs.Turned.{ended_then, nothing_went, went_then}
use Rattle.repair_loop.proofs.searches.Search.all_rounds.Goals as goal

pub loop-verdict-init : goal.loop-verdict-init
loop-verdict-init g c = search (arith, nothing_went)

pub round-requires-clause-fit : goal.round-requires-clause-fit
round-requires-clause-fit g c = c.loop-verdict.invariant.fit

pub round-requires-clause-search : goal.round-requires-clause-search
round-requires-clause-search g c = c.loop-verdict.invariant.search

pub round-requires-clause-known : goal.round-requires-clause-known
round-requires-clause-known g c = c.loop-verdict.invariant.known

pub returns-in_err-verdict-clause-inputs : goal.returns-in_err-verdict-clause-inputs
returns-in_err-verdict-clause-inputs g c = c.round.ensures.inputs ∙ c.loop-verdict.invariant.inputs

pub returns-in_err-verdict-clause-ended : goal.returns-in_err-verdict-clause-ended
returns-in_err-verdict-clause-ended g c = search (arith, ended_then)

pub returns-in_err-verdict-clause-stopped : goal.returns-in_err-verdict-clause-stopped
returns-in_err-verdict-clause-stopped g c = search (arith, on_err)

pub returns-in-Some-clause-inputs : goal.returns-in-Some-clause-inputs
returns-in-Some-clause-inputs g c = c.round.ensures.inputs ∙ c.loop-verdict.invariant.inputs

pub returns-in-Some-clause-ended : goal.returns-in-Some-clause-ended
returns-in-Some-clause-ended g c = search (arith, ended_then)

pub returns-in-Some-clause-shown_true : goal.returns-in-Some-clause-shown_true
returns-in-Some-clause-shown_true g c nodes id e =
    let same : c.in-Some.verdict ≡ _ = cc in
    c.round.ensures.shown_true nodes id (c.in_ok-verdict.was ∙ ap Ok (c.in-Some.is ∙ ap Some same))

pub returns-in-Some-clause-shown_false : goal.returns-in-Some-clause-shown_false
returns-in-Some-clause-shown_false g c id e =
    let same : c.in-Some.verdict ≡ _ = cc in
    c.round.ensures.shown_false id (c.in_ok-verdict.was ∙ ap Ok (c.in-Some.is ∙ ap Some same))

pub loop-verdict-smaller : goal.loop-verdict-smaller
loop-verdict-smaller g c = (c.round.ensures.open (c.in_ok-verdict.was ∙ ap Ok c.in_default.is)).step

pub loop-verdict-preserved : goal.loop-verdict-preserved
loop-verdict-preserved g c =
    let s = c.args.self.now in
    let next = c.round.ensures.open (c.in_ok-verdict.was ∙ ap Ok c.in_default.is) in
    record {
      fit = c.round.ensures.fit;
      search = next.search;
      known = next.known_there;
      inputs = c.round.ensures.inputs ∙ c.loop-verdict.invariant.inputs;
      went = search (arith, went_then);
    }
