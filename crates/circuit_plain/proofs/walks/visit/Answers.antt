use Rattle.std.proofs.Common.{◌≡◌, true, length, set, ◌∙◌}
use Rattle.std.proofs.lemmas.List.{length-set}
use Rattle.circuit_plain.proofs.walks.visit.Goals as goal

pub returns-in_ok-visit_side-2-clause-in_range : goal.returns-in_ok-visit_side-2-clause-in_range
returns-in_ok-visit_side-2-clause-in_range c =
    let long : length (set c.args.seen.now c.args.place true) ≡ length c.args.gates.now =
    length-set c.args.seen.now c.args.place true ∙ c.requires.a_mark_a_gate in
    rw long at c.in_ok-visit_side-2.ensures.in_range
