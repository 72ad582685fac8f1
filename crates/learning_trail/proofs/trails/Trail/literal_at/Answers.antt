use Rattle.std.proofs.Common.{◌≤◌, ◌<◌, length, sym, arith, subst}
use Rattle.dq_lits.specs.Literal.{variable_of}
use Rattle.learning_trail.specs.declared.trails.Step.{Step}
use Rattle.learning_trail.specs.Steps.{Trailed}
use Rattle.learning_trail.proofs.AssignedLiterals.{at_place}
use Rattle.learning_trail.proofs.BacktrackSteps.{all_reverse}
use Rattle.learning_trail.proofs.trails.Trail.literal_at.Goals as goal

pub returns-then-at-len-clause-at : goal.returns-then-at-len-clause-at
returns-then-at-len-clause-at c = search (arith, at_place)

pub returns-then-at-len-clause-in_range : goal.returns-then-at-len-clause-in_range
returns-then-at-len-clause-in_range c =
    let xs = c.self.inside.steps.items in
    let lt : c.args.at < length xs = omega (arith, c.if-at-len.true, c.len.ensures, c.self.inside.steps.ok.0) in
    let all = all_reverse (λ (s : Step). variable_of s.literal ≤ length c.self.inside.values) xs
    c.self.invariant.kept.in_range in
    let here : variable_of c.index.result.now.literal ≤ length c.self.inside.values =
    subst (λ (s : Step). variable_of s.literal ≤ length c.self.inside.values) (sym c.index.ensures)
    (all c.args.at c.index.result.now lt) in
    subst (λ (t : Trailed). variable_of c.index.result.now.literal ≤ t.room) c.self.view_is here
