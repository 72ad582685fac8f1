use Rattle.std.proofs.Common.{◌∷◌, [], All, subst}
use Rattle.gate_definitions.specs.Stating.{Implies, AreReadable}
use Rattle.gate_definitions.proofs.ImpliedLiterals.{is_conjunction}
use Rattle.gate_definitions.proofs.conjunctions.conjunction_at.Goals as goal

pub returns-then-all_readable : goal.returns-then-all_readable
returns-then-all_readable c = λ e known.
    let f = c.args.output.now.f.now in
    is_conjunction f c.args.output.now.ranks.now e c.args.l c.in-Some.clause.now c.in_ok-cube.cube.items
    c.in-Some.ensures c.in_ok-cube.ensures
    (subst (All (Implies f (c.args.l ∷ []))) c.deref.ensures.value (c.all_follow.ensures c.if-all_follow.true))
    (subst (AreReadable f c.args.output.now.ranks.now e) c.deref-then-all_follow.ensures.value
    (c.all_readable.ensures c.if-all_readable.true e known))
