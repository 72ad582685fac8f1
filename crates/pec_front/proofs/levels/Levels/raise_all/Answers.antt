use Rattle.std.proofs.Common.{ℕ, ◌<◌, ◌≤◌, List, length, get_or, ◌∙◌, subst}
use Rattle.pec_front.specs.Steps.{level_in, IsRaised}
use Rattle.pec_front.proofs.RaisedLevels.{raised-more, all-raised}
use Rattle.pec_front.proofs.levels.Levels.raise_all.Goals as goal

pub loop-place-preserved : goal.loop-place-preserved
loop-place-preserved c =
    let net = c.args.circuit.now in
    let k = c.loop-place.place-index in
    let old = level_in c.loop-place.self in
    let new = level_in c.raise.new.self in
    record {
      raised = raised-more net c.every_circuit_is_a_netlist.ensures c.args.order.now c.requires.order c.args.boxes.now
          c.requires.drive k
          (subst (λ (xs : List ℕ). k < length xs) c.places-place-items.ensures c.loop-place-test.true)
          old new c.loop-place.invariant.raised
          (subst (λ (xs : List ℕ). IsRaised net (get_or xs k 0) old new) c.places-place-items.ensures
          c.raise.ensures.raised);
      sized = c.raise.ensures.sized;
      same = c.raise.ensures.variables ∙ c.loop-place.invariant.same;
    }

pub returns : goal.returns
returns c =
    let k = c.loop-place.place-index in
    record {
      latest = all-raised c.args.circuit.now c.every_circuit_is_a_netlist.ensures c.args.order.now c.requires.order
          c.args.boxes.now (level_in c.loop-place.self) k
          (subst (λ (xs : List ℕ). length xs ≤ k) c.places-place-items.ensures c.loop-place-test.false)
          c.loop-place.invariant.raised;
    }
