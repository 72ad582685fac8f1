use Rattle.known_functions.proofs.StatedRules.{states_rule}
use Rattle.known_functions.proofs.stated_rules.stated_rule.Goals as goal

pub returns : goal.returns
returns c = states_rule c.args.f.now c.args.y c.args.number c.args.bit c.clause-clause.result.now c.in_ok-cube.cube
    c.requires.existential c.requires.number c.clause-clause.ensures c.in_ok-cube.ensures
    (λ e at. c.are_fitting.ensures e at c.if-not-are_fitting.false)
