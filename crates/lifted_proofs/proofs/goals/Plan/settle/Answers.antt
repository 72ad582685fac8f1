use Rattle.std.proofs.Common.{refl, arith}
use Rattle.std.proofs.lemmas.Option.{slice_get_within}
use Rattle.lifted_proofs.proofs.SettledGoals.{settled-next}
use Rattle.lifted_proofs.proofs.goals.Plan.settle.Goals as goal

pub ask_all-requires-clause-row : goal.ask_all-requires-clause-row
ask_all-requires-clause-row c = search (arith, slice_get_within)

pub returns : goal.returns
returns c =
    let r = c.ask_all.new.self in
    settled-next c.args.table.now c.args.self.now c.lower.new.self r (record r { reasons = c.push.new.self })
    c.goal-goal.result c.len.result _ c.items.result.now
    (record { lowered = c.in_ok-lowered.lowered; hints = c.in_ok-hints.hints }) c.goal-goal.ensures
    (omega (arith, c.len.ensures, c.args.self.now.reasons.ok.0)) c.in_ok-places.ensures c.in_ok-lowered.ensures
    c.items.ensures c.in_ok-hints.ensures refl c.in_ok-push.ensures.items
