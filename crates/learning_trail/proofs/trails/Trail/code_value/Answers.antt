use Rattle.std.proofs.Common.{◌≡◌, ◌-◌, ◌<◌, suc, reverse, length, ◌∙◌, ap, arith}
use Rattle.dq_lits.specs.Literal.{variable_of}
use Rattle.dq_lits.specs.Truth.{literal_value}
use Rattle.learning_trail.specs.Steps.{Trailed, literals_of}
use Rattle.learning_trail.proofs.PairedValues.{told_value}
use Rattle.learning_trail.proofs.trails.Trail.code_value.Goals as goal

pub returns : goal.returns
returns c =
    let inside = c.self.inside in
    let l = c.args.l in
    let room : length inside.values ≡ c.args.self.now.room = ap (λ t. t.room) c.self.view_is in
    let one = c.of.ensures.from_one in
    let known = c.requires in
    let at : variable_of l ≡ suc (variable_of l - 1) = omega (arith, one) in
    let lt : variable_of l - 1 < length inside.values = omega (arith, one, known, room) in
    c.of.ensures.value (variable_of l - 1) at
    ∙ told_value inside.values (literals_of (reverse inside.steps.items)) l (variable_of l - 1)
    c.self.invariant.kept.told at lt
    ∙ ap (λ (t : Trailed). literal_value (literals_of t.steps) l) c.self.view_is
