use Rattle.std.proofs.Common.{◌<◌, ◌∙◌, ap, arith, length, reverse}
use Rattle.dq_lits.specs.Literal.{variable_of}
use Rattle.dq_lits.specs.Truth.{literal_value}
use Rattle.learning_trail.specs.Steps.{Trailed, literals_of}
use Rattle.learning_trail.proofs.KeptTrails.{far_value}
use Rattle.learning_trail.proofs.trails.Trail.value.Goals as goal

pub returns-then-var-len : goal.returns-then-var-len
returns-then-var-len c =
    let inside = c.self.inside in
    let far : length inside.values < variable_of c.args.l =
    omega (arith, c.if-var-len.true, c.var.ensures.value, c.len.ensures) in
    far_value (length inside.values) (reverse inside.steps.items) c.args.l c.self.invariant.kept.in_range far
    ∙ ap (λ (t : Trailed). literal_value (literals_of t.steps) c.args.l) c.self.view_is
