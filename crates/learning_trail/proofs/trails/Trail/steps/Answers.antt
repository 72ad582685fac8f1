use Rattle.std.proofs.Common.{◌≤◌, length, sym, subst, List, All}
use Rattle.dq_lits.specs.Literal.{variable_of}
use Rattle.learning_trail.specs.declared.trails.Step.{Step}
use Rattle.learning_trail.specs.Steps.{Trailed}
use Rattle.learning_trail.proofs.BacktrackSteps.{all_reverse}
use Rattle.learning_trail.proofs.trails.Trail.steps.Goals as goal

pub returns-clause-in_range : goal.returns-clause-in_range
returns-clause-in_range c =
    let P : Trailed → Type 0 = λ t. All (λ (s : Step). variable_of s.literal ≤ t.room) c.self.inside.steps.items in
    let here = subst P c.self.view_is (all_reverse (λ (s : Step). variable_of s.literal ≤ length
    c.self.inside.values) c.self.inside.steps.items c.self.invariant.kept.in_range) in
    subst (λ (xs : List Step). All (λ (s : Step). variable_of s.literal ≤ c.args.self.now.room) xs)
    (sym c.deref.ensures.value) here
