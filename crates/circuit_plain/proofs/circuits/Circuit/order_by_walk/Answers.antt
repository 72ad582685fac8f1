use Rattle.std.proofs.Common.{◌≡◌, ◌<◌, length, arith}
use Rattle.std.proofs.lemmas.Bool.{OnTrue_at}
use Rattle.circuit_plain.proofs.SortSteps.{length-draft}
use Rattle.circuit_plain.proofs.circuits.Circuit.order_by_walk.Goals as goal

pub loop-walked-smaller : goal.loop-walked-smaller
loop-walked-smaller c =
    let grown : length c.loop-walked.draft.places.items < length c.put_round.new.draft.places.items =
    OnTrue_at c.if-branch.true c.in_ok-put_round.ensures.added in
    let bound = length-draft c.args.self.now _ c.in_ok-put_round.ensures.draft.partial in
    omega arith

pub returns-in-Some-clause-cyclic : goal.returns-in-Some-clause-cyclic
returns-in-Some-clause-cyclic c place e =
    let here : c.in-Some.place ≡ place = cc in
    c.first_unsettled.ensures.some place (cc)
